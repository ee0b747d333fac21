-- The names that are printed.
use Rattle.std.specs.Prelude.{ℕ, ◌+◌, List, ◌++◌, if◌then◌else◌, map, codes, decimal}
use Rattle.lattice.specs.Family.{numbers_below}
use Rattle.pla_reader.specs.PlainNames.{are_plain}
use Rattle.pla_reader.specs.declared.pla.Pla.{Pla}

-- the letter with 1, 2 and so on
unfoldable pub numbered : List ℕ → ℕ → List (List ℕ)
numbered letter count = map (λ i. letter ++ decimal (i + 1)) (numbers_below count)

-- the names that are printed: those that were given, where they can be printed
unfoldable pub printed_names : List ℕ → ℕ → List (List ℕ) → List (List ℕ)
printed_names letter count given = if are_plain given then given else numbered letter count

abbrev pub input_names : Pla → List (List ℕ)
input_names p = printed_names (codes "x") p.inputs p.in_names

abbrev pub output_names : Pla → List (List ℕ)
output_names p = printed_names (codes "f") p.outputs p.out_names
