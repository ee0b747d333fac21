-- The least points at which the outputs of a circuit are 1, what finding them needs, and what the search for them gives.
use Rattle.std.specs.Prelude.{◌≡◌, ℕ, ◌^◌, ◌<◌, ◌≤◌, ◌++◌, ◌∷◌, true, List, [], Option, None, Some, Result, IfOk, IsErrOf, OnOk, length, map}
use Rattle.std.specs.Prelude.{slice_index_or}
use Rattle.std.specs.Global.{Vec}
use Rattle.std.specs.List.{All, AllZip, flat_map}
use Rattle.lattice.specs.Family.{Covers, Family, power}
use Rattle.lattice.specs.Polynomial.{ones_of}
use Rattle.lattice.specs.WorkingLists.{ones_list, working_set}
use Rattle.node_store.specs.Stores.{Denotes, Knows, State, family}
use Rattle.node_store.specs.declared.refusal.SolveRefusal.{SolveRefusal}
use Rattle.node_store.specs.declared.refusal.SolveRefusal.TheVariants.{Full}
use Rattle.aig_reader.specs.Circuit.{Circuit, HasValue}
use Rattle.diagram_measures.specs.Measured.{least_member_of}
use Rattle.gate_build.specs.Polynomials.{polynomial_of}
use Rattle.gate_build.specs.Steps.{circuit_list}
use Rattle.circuit_solve.specs.Answers.{care_points, output_polynomials}
use Rattle.circuit_solve.specs.Care.{IsCared, asked}
use Rattle.circuit_solve.specs.Reduced.{points_list}
use Rattle.circuit_solve.specs.declared.ones.AskedOutputs.{AskedOutputs}

-- the literal is 1 at the point, and the point is cared for
pub record IsOneAt (c : Circuit) (care : Option ℕ) (literal point : ℕ) : Type 0 where
  pub below : point < 2 ^ c.inputs
  pub cared : IsCared c care point
  pub is_one : HasValue c point literal true

-- the least such point, and none where there is none
abbrev pub IsLeastOne : Circuit → (care : Option ℕ) → (literal : ℕ) → Option ℕ → Type 0
IsLeastOne c care literal None = (point : ℕ) → IsOneAt c care literal point → ⊥
IsLeastOne c care literal (Some point) = IsOneAt c care literal point × ((other : ℕ) → IsOneAt c care literal other → point ≤ other)

-- of each output that is asked for, in order
abbrev pub AreLeastOnes : Circuit → (care : Option ℕ) → List (Option ℕ) → Type 0
AreLeastOnes c care = AllZip (IsLeastOne c care) (asked c care)

-- ---- by families

-- of polynomials over n variables the least of these points at which each is 1, and what finding them needs
abbrev pub least_ones_by : ℕ → (points : Family) → List Family → List (Option ℕ)
least_ones_by n points polynomials = map (λ p. least_member_of (ones_of n p points)) polynomials

abbrev pub ones_lists : ℕ → (points : Family) → List Family → List Family
ones_lists n points polynomials = flat_map (λ p. ones_list n p points) polynomials

-- the polynomials of the outputs that are asked for
abbrev pub asked_polynomials : Circuit → (care : Option ℕ) → List Family
asked_polynomials c care = map (polynomial_of c) (asked c care)

-- what finding the points that are cared for needs
abbrev pub care_points_list : Circuit → (care : Option ℕ) → List Family
care_points_list c None = power c.inputs ∷ []
care_points_list c (Some output) = points_list c.inputs (slice_index_or (output_polynomials c) output [])

-- and finding these with the polynomials
abbrev pub asked_list : Circuit → (care : Option ℕ) → List Family
asked_list c care = circuit_list c ++ care_points_list c care

-- and the least points
abbrev pub one_list : Circuit → (care : Option ℕ) → List Family
one_list c care = asked_list c care ++ ones_lists c.inputs (care_points c care) (asked_polynomials c care)

-- the nodes that all this needs
abbrev pub one_nodes : Circuit → (care : Option ℕ) → ℕ
one_nodes c care = length (working_set c.inputs (one_list c care))

-- ---- what was found

-- the handles are those of the polynomials that are asked for and of the points, and what these needed is held
pub record HoldsAsked (s : State) (c : Circuit) (care : Option ℕ) (found : AskedOutputs) : Type 0 where
  pub known : All (Knows s) found.polynomials.items
  pub are : map (family s) found.polynomials.items ≡ asked_polynomials c care
  pub points : Denotes s found.points (care_points c care)
  pub held : Covers s.held (working_set c.inputs (asked_list c care))

-- the points are given where finding them fits a store of so many slots, and else it is full, unless memory ran out
pub record FindsLeastOnes (slots : ℕ) (c : Circuit) (care : Option ℕ) (result : Result (Vec (Option ℕ)) SolveRefusal) : Type 0 where
  pub found : IfOk result (λ found. found.items ≡ least_ones_by c.inputs (care_points c care) (asked_polynomials c care))
  pub fits : OnOk result (one_nodes c care ≤ slots)
  pub exhausted : IsErrOf result Full → slots < one_nodes c care
