-- What the parts of the reader answer to each other. No public clause has these words.
use Rattle.std.specs.Prelude.{◌≡◌, ℕ, ◌<◌, ◌==◌, nat_le, Bool, true, not, ◌&&◌, List, ◌∷◌, length, take, drop, codes, Option, Some}
use Rattle.std.specs.List.{list_all, position_or_len}
use Rattle.pla_reader.specs.declared.refusal.Why.{Why}
use Rattle.pla_reader.specs.declared.refusal.Refusal.{Refusal}
use Rattle.pla_reader.specs.declared.refusal.LineRefusal.{LineRefusal}
use Rattle.pla_reader.specs.declared.refusal.LineRefusal.TheVariants.{Bad, Memory}
use Rattle.pla_reader.specs.declared.refusal.ReadRefusal.{ReadRefusal}
use Rattle.pla_reader.specs.declared.refusal.ReadRefusal.TheVariants as whole
use Rattle.pla_reader.specs.declared.refusal.TextRefusal.{TextRefusal}
use Rattle.pla_reader.specs.declared.refusal.TextRefusal.TheVariants as text
use Rattle.pla_reader.specs.Lines.{is_blank, words_of}
use Rattle.pla_reader.specs.Grammar.{is_one_of}
use Rattle.pla_reader.specs.Reading.{input_mask}

-- the first word of a line, and what follows it
pub record BeginsWithWord (line word rest : List ℕ) : Type 0 where
  pub words : words_of line ≡ word ∷ words_of rest
  pub some : 0 < length word
  pub less : length rest < length line

-- a line without the blanks before its first word
abbrev pub from_first_word : List ℕ → List ℕ
from_first_word line = drop (position_or_len (λ b. not (is_blank b)) line) line

-- whether the first symbols, one for each input, and the others, one for each output, may stand for these
abbrev pub gives_inputs : (inputs : ℕ) → (symbols : List ℕ) → Bool
gives_inputs inputs symbols = nat_le inputs (length symbols) && list_all (is_one_of (codes "01-2")) (take inputs symbols)

abbrev pub gives_outputs : (outputs : ℕ) → (symbols : List ℕ) → Bool
gives_outputs outputs symbols = length symbols == outputs && list_all (is_one_of (codes "01-~24")) symbols

-- the first symbols, one for each input, fix these inputs, and these to 1; the others follow them
pub record IsCubeOf (inputs : ℕ) (symbols : List ℕ) (care value : ℕ) (others : List ℕ) : Type 0 where
  pub given : gives_inputs inputs symbols ≡ true
  pub care_is : care ≡ input_mask (is_one_of (codes "01")) (take inputs symbols)
  pub value_is : value ≡ input_mask (is_one_of (codes "1")) (take inputs symbols)
  pub others_are : others ≡ drop inputs symbols

-- the refusal of the line of this number, of a description and of any other text
abbrev pub read_refusal : LineRefusal Why → ℕ → ReadRefusal
read_refusal (Bad why) line = whole.Bad (record { line = line; why = why })
read_refusal Memory line = whole.Memory

abbrev pub text_refusal : {W : Type 0} → LineRefusal W → ℕ → TextRefusal W
text_refusal (Bad why) line = text.Bad line why
text_refusal Memory line = text.Memory

-- the line has this fault, or memory ran out
abbrev pub Stops : {W : Type 0} → LineRefusal W → Option W → Type 0
Stops (Bad why) fault = fault ≡ Some why
Stops Memory fault = Unit {0}

-- this is the first fault of the lines, or memory ran out
abbrev pub Refuses : ReadRefusal → Option Refusal → Type 0
Refuses (whole.Bad refusal) fault = fault ≡ Some refusal
Refuses whole.Memory fault = Unit {0}
