-- The definition computes at words that are written out.
use Rattle.std.proofs.Common.{◌≡◌, ◌∷◌, [], List, refl, codes, Some, None}
use Rattle.clap.specs.Words.{Text, fault_of, first_of, matches_of}
use Rattle.clap.specs.Kinds.{Kinds}
use Rattle.clap.specs.declared.error.kind.ErrorKind.TheVariants as kind
use Rattle.clap.proofs.OnLiterals.{clap_on_literals}
use Rattle.cli_words.specs.Arguments.{number_of}
use Rattle.circuit_words.specs.CommandLine.{circuit_command}

abbrev HasFaults : List Text → Kinds → Type 0
HasFaults words kinds = fault_of circuit_command words ≡ kinds

-- no words, a mode of another program, too few nodes and too many, an option twice, help, no value, and an option of another program
worked : HasFaults [] (kind.MissingRequiredArgument ∷ [])
    × HasFaults (codes "circuit" ∷ codes "check" ∷ []) (kind.InvalidValue ∷ [])
    × HasFaults (codes "circuit" ∷ codes "count" ∷ codes "--nodes" ∷ codes "3" ∷ []) (kind.ValueValidation ∷ [])
    × HasFaults (codes "circuit" ∷ codes "count" ∷ codes "--nodes" ∷ codes "24" ∷ []) (kind.ValueValidation ∷ [])
    × HasFaults (codes "circuit" ∷ codes "anf" ∷ codes "--care" ∷ codes "f" ∷ codes "--care=f" ∷ []) (kind.ArgumentConflict ∷ [])
    × HasFaults (codes "circuit" ∷ codes "anf" ∷ codes "-h" ∷ []) (kind.DisplayHelp ∷ [])
    × HasFaults (codes "circuit" ∷ codes "anf" ∷ codes "--invert" ∷ []) (kind.InvalidValue ∷ [])
    × HasFaults (codes "circuit" ∷ codes "anf" ∷ codes "--seed" ∷ codes "1" ∷ []) (kind.UnknownArgument ∷ [])
unfolding clap_on_literals
worked = (refl, refl, refl, refl, refl, refl, refl, refl)

-- words that are taken, with what they say; the care is a text without a letter, and none is inverted
seven : List Text
seven = codes "circuit" ∷ codes "--nodes=+07" ∷ codes "--care=" ∷ codes "--" ∷ codes "count" ∷ []

is_seven : HasFaults seven [] × (number_of (codes "nodes") (matches_of circuit_command seven) ≡ Some 7)
    × (first_of (codes "care") (matches_of circuit_command seven) ≡ Some [])
    × (first_of (codes "invert") (matches_of circuit_command seven) ≡ None)
unfolding clap_on_literals seven
is_seven = (refl, refl, refl, refl)
