-- The definition computes at words that are written out.
use Rattle.std.proofs.Common.{◌≡◌, ◌∷◌, [], List, refl, codes, Some, None}
use Rattle.clap.specs.Words.{Text, fault_of, first_of, matches_of}
use Rattle.clap.specs.Kinds.{Kinds}
use Rattle.clap.specs.declared.error.kind.ErrorKind.TheVariants as kind
use Rattle.clap.proofs.OnLiterals.{clap_on_literals}
use Rattle.cli_words.specs.Arguments.{number_of}
use Rattle.cli_words.specs.CommandLine.{interp_command}

abbrev HasFaults : List Text → Kinds → Type 0
HasFaults words kinds = fault_of interp_command words ≡ kinds

-- no mode, no words, too few nodes and too many, an option twice, help, no value, and the beginning of an option's name
worked : HasFaults (codes "interp" ∷ []) (kind.MissingRequiredArgument ∷ [])
    × HasFaults [] (kind.MissingRequiredArgument ∷ [])
    × HasFaults (codes "interp" ∷ codes "anf" ∷ codes "--nodes" ∷ codes "3" ∷ []) (kind.ValueValidation ∷ [])
    × HasFaults (codes "interp" ∷ codes "anf" ∷ codes "--nodes" ∷ codes "24" ∷ []) (kind.ValueValidation ∷ [])
    × HasFaults (codes "interp" ∷ codes "anf" ∷ codes "--seed" ∷ codes "1" ∷ codes "--seed=1" ∷ []) (kind.ArgumentConflict ∷ [])
    × HasFaults (codes "interp" ∷ codes "anf" ∷ codes "-h" ∷ []) (kind.DisplayHelp ∷ [])
    × HasFaults (codes "interp" ∷ codes "anf" ∷ codes "--seed" ∷ []) (kind.InvalidValue ∷ [])
    × HasFaults (codes "interp" ∷ codes "anf" ∷ codes "--se" ∷ codes "1" ∷ []) (kind.UnknownArgument ∷ [])
unfolding clap_on_literals
worked = (refl, refl, refl, refl, refl, refl, refl, refl)

-- words that are taken, with the number that they say
plus_eight : List Text
plus_eight = codes "interp" ∷ codes "--workers=+08" ∷ codes "--" ∷ codes "anf" ∷ []

is_eight : HasFaults plus_eight [] × (number_of (codes "workers") (matches_of interp_command plus_eight) ≡ Some 8)
unfolding clap_on_literals plus_eight
is_eight = (refl, refl)

-- the text of the order, as it was given; none where none was
by_order : List Text
by_order = codes "interp" ∷ codes "anf" ∷ codes "--order" ∷ codes "b,a" ∷ []

is_by_order : HasFaults by_order [] × (first_of (codes "order") (matches_of interp_command by_order) ≡ Some (codes "b,a"))
unfolding clap_on_literals by_order
is_by_order = (refl, refl)

has_no_order : first_of (codes "order") (matches_of interp_command plus_eight) ≡ None
unfolding clap_on_literals plus_eight
has_no_order = refl
