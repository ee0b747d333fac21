-- Right answers.
use Rattle.std.specs.Prelude.{◌≡◌, ℕ, ◌+◌, List, length, map, reverse, Some, slice_get}
use Rattle.std.specs.List.{All}
use Rattle.lattice.specs.Family.{Family, IsFamily}
use Rattle.lattice.specs.Interpolation.{IsLeast}
use Rattle.lattice.specs.Basis.{IsReducedBasis}
use Rattle.lattice.specs.Rows.{care_zeros, care_ones}
use Rattle.lattice.specs.WorkingLists.{care_set}
use Rattle.pla_reader.specs.Reading.{Description}
use Rattle.cert_check.specs.declared.answer.Given.{Given}
use Rattle.cert_check.specs.declared.answer.GivenOutput.{GivenOutput}

-- an answer has its terms from the greatest to the least
abbrev pub polynomial : Given → Family
polynomial given = reverse given.terms

-- polynomials over so many inputs
pub record IsOutputOver (inputs : ℕ) (output : GivenOutput) : Type 0 where
  pub poly : IsFamily inputs (polynomial output.poly)
  pub basis : All (λ element. IsFamily inputs (polynomial element)) output.basis

-- an answer for the outputs of a description, by polynomials over its inputs
pub record IsAnswerFor (d : Description) (answer : List GivenOutput) : Type 0 where
  pub count : length answer ≡ d.outputs
  pub polynomials : All (IsOutputOver d.inputs) answer

-- the polynomial of the output is least, and its list is the reduced basis of the care points
pub record IsRightFor (d : Description) (output : ℕ) (given : GivenOutput) : Type 0 where
  pub least : IsLeast d.inputs (care_zeros d.inputs d.kind d.rows output) (care_ones d.inputs d.kind d.rows output) (polynomial given.poly)
  pub basis : IsReducedBasis d.inputs (care_set d.inputs d.kind d.rows output) (map polynomial given.basis)

-- all outputs, counted from 1, are given rightly
abbrev pub IsRight : Description → List GivenOutput → Type 0
IsRight d answer = (k : ℕ) (given : GivenOutput) → slice_get answer k ≡ Some given → IsRightFor d (k + 1) given
