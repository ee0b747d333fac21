-- The points that are cared for, and what answers the outputs of a circuit.
use Rattle.std.specs.Prelude.{◌≡◌, ◌≢◌, ℕ, ◌^◌, ◌<◌, Bool, true, cond, Option, None, Some, List, slice_index}
use Rattle.std.specs.List.{AllZip, remove}
use Rattle.lattice.specs.Family.{Family, IsFamily}
use Rattle.lattice.specs.Ideals.{Polynomials}
use Rattle.lattice.specs.Polynomial.{IsLess, value}
use Rattle.aig_reader.specs.Circuit.{Circuit, HasValue}

-- a point is cared for: each one is, or each at which the output of this position, from 0 on, is 1
abbrev pub IsCared : Circuit → (care : Option ℕ) → (point : ℕ) → Type 0
IsCared c None point = Unit {0}
IsCared c (Some output) point = HasValue c point (slice_index c.outputs output) true

-- the polynomial has the literal's value at each point that is cared for
abbrev pub HasCareValues : Circuit → Option ℕ → (literal : ℕ) → Family → Type 0
HasCareValues c care literal p = (point : ℕ) (x : Bool) → point < 2 ^ c.inputs → IsCared c care point → HasValue c point literal x
    → value p point ≡ cond x 1 0

-- p is the least polynomial in the inputs that does: every other one that does is greater
pub record IsAnswerTo (c : Circuit) (care : Option ℕ) (literal : ℕ) (p : Family) : Type 0 where
  pub family : IsFamily c.inputs p
  pub values : HasCareValues c care literal p
  pub least : (q : Family) → IsFamily c.inputs q → HasCareValues c care literal q → q ≢ p → IsLess p q

-- the literals of the outputs that are answered: all but the one that says which points are cared for
abbrev pub asked : Circuit → Option ℕ → List ℕ
asked c None = c.outputs
asked c (Some output) = remove c.outputs output

-- the answers, in the order of the outputs
abbrev pub AreAnswers : Circuit → Option ℕ → List Family → Type 0
AreAnswers c care = AllZip (IsAnswerTo c care) (asked c care)

-- the polynomials in the inputs that vanish at each point that is cared for
abbrev pub CareIdeal : Circuit → Option ℕ → Polynomials
CareIdeal c care p = IsFamily c.inputs p × ((point : ℕ) → point < 2 ^ c.inputs → IsCared c care point → value p point ≡ 0)
