-- The answers that a consistent description is due, and what counts their terms.
use Rattle.std.specs.Prelude.{◌≡◌, ℕ, ◌+◌, ◌++◌, List, [], true, false, Some, length, map, slice_get, sum_by, codes, decimal}
use Rattle.std.specs.List.{enumerate_from, flat_map}
use Rattle.lattice.specs.Interpolation.{IsLeast}
use Rattle.lattice.specs.Basis.{IsReducedBasis}
use Rattle.lattice.specs.Rows.{IsConsistent, care_zeros, care_ones}
use Rattle.lattice.specs.WorkingLists.{care_set, is_basis, first_phase, second_phase, working_set}
use Rattle.lattice.specs.declared.kind.Mode.{Mode}
use Rattle.pla_reader.specs.Reading.{Description}
use Rattle.pla_reader.specs.PrintedNames.{printed_names}
use Rattle.anf_printer.specs.Text.{Answer, texts_of}
use Rattle.watch.specs.declared.note.Note.{Note}

-- the answer of an output: its least polynomial and, in mode basis, the reduced basis of its care points
pub record IsAnswerOf (d : Description) (mode : Mode) (output : ℕ) (a : Answer) : Type 0 where
  pub least : IsLeast d.inputs (care_zeros d.inputs d.kind d.rows output) (care_ones d.inputs d.kind d.rows output) a.polynomial
  pub basis : is_basis mode ≡ true → IsReducedBasis d.inputs (care_set d.inputs d.kind d.rows output) a.basis
  pub bare : is_basis mode ≡ false → a.basis ≡ []

-- the answers of all outputs of a consistent description, in order
pub record AreAnswers (d : Description) (mode : Mode) (answers : List Answer) : Type 0 where
  pub consistent : IsConsistent d.inputs d.outputs d.rows
  pub count : length answers ≡ d.outputs
  pub each : (k : ℕ) (a : Answer) → slice_get answers k ≡ Some a → IsAnswerOf d mode (k + 1) a

-- the terms of all polynomials, and the elements of all bases
abbrev pub first_count : List Answer → ℕ
first_count answers = sum_by (λ a. length a.polynomial + length a.basis) answers

-- the terms that are printed: those of all polynomials, and of all elements of the bases
abbrev pub second_count : List Answer → ℕ
second_count answers = sum_by (λ a. length a.polynomial + sum_by length a.basis) answers

-- the nodes that are needed for the polynomials and the leads, and those that are needed for the bases too
abbrev pub first_nodes : Description → Mode → ℕ
first_nodes d mode = length (working_set d.inputs (first_phase d.inputs d.outputs d.kind d.rows mode))

abbrev pub last_nodes : Description → Mode → ℕ
last_nodes d mode = length (working_set d.inputs (second_phase d.inputs d.outputs d.kind d.rows mode))

-- the texts of the outputs
abbrev pub texts : Description → Mode → List Answer → List (List ℕ)
texts d mode = texts_of mode (printed_names (codes "x") d.inputs d.in_names) (printed_names (codes "f") d.outputs d.out_names)

-- the line of an output, by its number
abbrev pub summary_line : ℕ × Answer → List ℕ
summary_line output = codes "f" ++ decimal output.0 ++ codes " " ++ decimal (length output.1.polynomial) ++ codes "\n"

-- the summary: how many care points output 1 has, and how many terms the polynomial of each output
abbrev pub summary : Description → List Answer → List ℕ
summary d answers =
    let points = length (care_zeros d.inputs d.kind d.rows 1) + length (care_ones d.inputs d.kind d.rows 1) in
    codes "points " ++ decimal points ++ codes "\n" ++ flat_map summary_line (enumerate_from 1 answers)

-- what the watchers are told of the outputs from the given number on
unfoldable pub notes_from : ℕ → List Answer → List Note
notes_from first answers = map (λ o. record { output = o.0; terms = length o.1.polynomial; basis = length o.1.basis })
    (enumerate_from first answers)
