-- The arguments that command lines share, as they are declared, and what a parse finds of them.
use Rattle.std.specs.Prelude.{◌≡◌, ◌∷◌, [], Any, List, ℕ, map, true, Option, None, Some, option_map, codes, fold}
use Rattle.std.specs.Borrow.{Bor}
use Rattle.std.specs.Str.Parse.{digits_value, without_leading_plus}
use Rattle.clap.specs.Words.{App, IsUnsignedIn, Row, Rule, Text, first_value, new_app, new_rule, one_of, one_text, with_rule}
use Rattle.clap.specs.declared.builder.action.ArgAction.TheVariants.{Set}
use Rattle.clap.specs.declared.builder.value_parser.ValueParser.{ValueParser}
use Rattle.clap.specs.declared.builder.value_parser.ValueParser.TheVariants as parser
use Rattle.clap.specs.declared.parser.matches.Found.{Found}
use Rattle.lattice.specs.declared.limits.TheConstants.{MIN_BITS, MAX_BITS}

-- a list of names at its address
abbrev pub NameList : Type 0
NameList = Bor (List (Bor Text))

-- MODE, with its names at an address
abbrev pub mode_rule : NameList → Rule
mode_rule list = record (new_rule (codes "mode")) { required = true; action = Some Set; parser = Some (parser.Names list) }

-- an option with one value, of any form where no parser says which; and its default, where it has one
abbrev pub option_rule : Text → Option ValueParser → List Text → Rule
option_rule name values defaults = record (new_rule name) { long = Some name; action = Some Set; parser = values; defaults = defaults }

-- `--nodes B`
abbrev pub nodes_rule : Rule
nodes_rule = option_rule (codes "nodes") (Some (parser.Unsigned MIN_BITS MAX_BITS)) (codes "19" ∷ [])

-- `--terms T`
abbrev pub terms_rule : Rule
terms_rule = option_rule (codes "terms") (Some (parser.Unsigned 1 1000000)) (codes "1000000" ∷ [])

-- an option whose value is any text, without a default
abbrev pub text_rule : Text → Rule
text_rule name = option_rule name None []

-- the command of this name, with MODE, whose names are at an address, and its options in their order
abbrev pub command_at : Text → List Rule → NameList → App
command_at name options list = fold with_rule (new_app name) (mode_rule list ∷ options)

abbrev pub at_zero : {X : Type 0} → X → Bor X
at_zero x = record { ref_ptr = (0, 0); now = x }

abbrev pub list_at_zero : List Text → NameList
list_at_zero names = at_zero (map at_zero names)

-- the command whose MODE has these names; what it makes of words does not depend on an address
abbrev pub command_of : Text → List Rule → List Text → App
command_of name options names = command_at name options (list_at_zero names)

-- the list has these names
abbrev pub AreNames : List Text → NameList → Type 0
AreNames names list = map (λ name. name.now) list.now ≡ names

-- the number that the value of an option says
abbrev pub number_of : Text → List Row → Option ℕ
number_of id rows = option_map (λ text. digits_value 10 (without_leading_plus text)) (one_of id rows)

-- a parse found a value of MODE, the name of one of these modes
abbrev pub HasModeOf : {M : Type 0} → (M → Text) → List M → Found → Type 0
HasModeOf name_of modes found = Any (λ mode. first_value found (codes "mode") ≡ Some (name_of mode)) modes

-- a parse found a value of the option, a number in this range
abbrev pub HasNumber : Found → Text → ℕ → ℕ → Type 0
HasNumber found id low high =
    (text : Text) × (one_text found id ≡ Some text) × IsUnsignedIn low high text
