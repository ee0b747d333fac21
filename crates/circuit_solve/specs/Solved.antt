-- What solves a circuit: its answers and, where it is asked for, the reduced basis of the points that are cared for; what finding these
-- needs, and which limit they pass first.
use Rattle.std.specs.Prelude.{◌≡◌, ℕ, ◌+◌, ◌^◌, ◌++◌, ◌∷◌, Bool, true, false, List, [], Option, None, Some, if◌then◌else◌, length, map}
use Rattle.std.specs.Prelude.{nat_lt, reverse, sum_by}
use Rattle.std.specs.List.{flat_map}
use Rattle.lattice.specs.Basis.{leads_of, reduced_basis_of, standard_of}
use Rattle.lattice.specs.Family.{Family, power}
use Rattle.lattice.specs.Ideals.{IsReducedBasisOf}
use Rattle.lattice.specs.WorkingLists.{basis_element_list, working_set}
use Rattle.aig_reader.specs.Circuit.{Circuit}
use Rattle.set_algebra.specs.declared.refusal.TermsRefusal.{TermsRefusal}
use Rattle.set_algebra.specs.declared.refusal.TermsRefusal.TheVariants.{Full, Over}
use Rattle.std_monomials.specs.PointLeads.{point_leads_list}
use Rattle.circuit_solve.specs.Answers.{answers_list, answers_of, care_points}
use Rattle.circuit_solve.specs.Care.{AreAnswers, CareIdeal}
use Rattle.circuit_solve.specs.declared.solution.Solution.{Solution}

-- the answers, and the elements of the basis
pub record Solved : Type 0 where
  pub polynomials : List Family
  pub basis : List Family

-- the reduced basis of what vanishes at the points that are cared for, where it is asked for, and else none
abbrev pub IsWanted : Circuit → (care : Option ℕ) → (with_basis : Bool) → List Family → Type 0
IsWanted c care false basis = basis ≡ []
IsWanted c care true basis = IsReducedBasisOf (CareIdeal c care) basis

pub record IsSolved (c : Circuit) (care : Option ℕ) (with_basis : Bool) (s : Solved) : Type 0 where
  pub answers : AreAnswers c care s.polynomials
  pub basis : IsWanted c care with_basis s.basis

-- as it is given: the terms of each polynomial from the greatest to the least
abbrev pub solved : Solution → Solved
solved s = record { polynomials = map reverse s.polynomials; basis = map reverse s.basis }

-- ---- by families

-- the leads of the points that are cared for
abbrev pub care_leads : Circuit → Option ℕ → Family
care_leads c care = leads_of c.inputs (standard_of c.inputs (care_points c care))

abbrev pub basis_by : Circuit → Option ℕ → (with_basis : Bool) → List Family
basis_by c care false = []
basis_by c care true = reduced_basis_of c.inputs (care_points c care)

abbrev pub solved_by : Circuit → Option ℕ → (with_basis : Bool) → Solved
solved_by c care with_basis = record { polynomials = answers_of c care; basis = basis_by c care with_basis }

-- ---- the families that are needed

-- all points, where they were not found for the answers
abbrev pub all_points_list : Circuit → Option ℕ → List Family
all_points_list c None = power c.inputs ∷ []
all_points_list c (Some output) = []

-- of phase 1: of the answers, the points and, for a basis, their leads
abbrev pub first_phase_list : Circuit → Option ℕ → List Family
first_phase_list c care =
    answers_list c care ++ (all_points_list c care ++ point_leads_list c.inputs (care_points c care))

-- of the elements with some leads
abbrev pub elements_list : ℕ → Family → List ℕ → List Family
elements_list n points leads = flat_map (λ m. basis_element_list n m points) leads

-- of phase 2: these, and of the elements
abbrev pub second_phase_list : Circuit → Option ℕ → List Family
second_phase_list c care = first_phase_list c care ++ elements_list c.inputs (care_points c care) (care_leads c care)

-- the nodes that phase 1 needs, and those that phase 2 needs; without a basis there is phase 1 alone, which finds the answers
abbrev pub first_nodes : Circuit → Option ℕ → (with_basis : Bool) → ℕ
first_nodes c care false = length (working_set c.inputs (answers_list c care))
first_nodes c care true = length (working_set c.inputs (first_phase_list c care))

abbrev pub last_nodes : Circuit → Option ℕ → (with_basis : Bool) → ℕ
last_nodes c care false = length (working_set c.inputs (answers_list c care))
last_nodes c care true = length (working_set c.inputs (second_phase_list c care))

-- the first limit that what solves a circuit passes, of stores of 2^bits slots and of a number of terms: the nodes of phase 1, the
-- terms of the answers and the number of elements, the nodes of phase 2, all terms
abbrev pub first_refused : (bits limit : ℕ) → Circuit → Option ℕ → (with_basis : Bool) → Solved → Option TermsRefusal
first_refused bits limit c care with_basis s =
    if nat_lt (2 ^ bits) (first_nodes c care with_basis) then Some Full
    else if nat_lt limit (sum_by length s.polynomials + length s.basis) then Some Over
    else if nat_lt (2 ^ bits) (last_nodes c care with_basis) then Some Full
    else if nat_lt limit (sum_by length s.polynomials + sum_by length s.basis) then Some Over
    else None
