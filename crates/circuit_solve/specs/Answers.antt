-- The care points and the answers by families, what finding them needs, and what is found.
use Rattle.std.specs.Prelude.{◌≡◌, ℕ, ◌++◌, List, [], Option, None, Some, IsSomeAnd, Result, length, map, reverse, sum_by}
use Rattle.std.specs.List.{All, flat_map, remove, slice_index_or}
use Rattle.lattice.specs.Family.{Covers, Family, power}
use Rattle.lattice.specs.Polynomial.{ones_of}
use Rattle.lattice.specs.WorkingLists.{working_set}
use Rattle.node_store.specs.Stores.{Denotes, Knows, State, family}
use Rattle.node_store.specs.declared.store.Handle.{Handle}
use Rattle.aig_reader.specs.Circuit.{Circuit}
use Rattle.set_algebra.specs.declared.refusal.TermsRefusal.{TermsRefusal}
use Rattle.gate_build.specs.Polynomials.{polynomial_of}
use Rattle.gate_build.specs.Steps.{circuit_list}
use Rattle.circuit_solve.specs.Found.{SearchGives}
use Rattle.circuit_solve.specs.Reduced.{points_list, reduced, values_list}
use Rattle.circuit_solve.specs.declared.answers.Answered.{Answered}

-- ---- with some polynomials, of which one says which points are cared for

-- the points where that of this position, from 0 on, is 1
abbrev pub points_by : ℕ → List Family → (output : ℕ) → Family
points_by n polynomials output = ones_of n (slice_index_or polynomials output []) (power n)

-- the least polynomials with the values of the others at these
abbrev pub answers_by : ℕ → List Family → (output : ℕ) → List Family
answers_by n polynomials output = map (reduced n (points_by n polynomials output)) (remove polynomials output)

-- what finding both needs
abbrev pub care_list : ℕ → List Family → (output : ℕ) → List Family
care_list n polynomials output = points_list n (slice_index_or polynomials output [])
    ++ flat_map (values_list n (points_by n polynomials output)) (remove polynomials output)

-- both were found
pub record HoldsCare (s : State) (n : ℕ) (polynomials : List Family) (output : ℕ) (found : Answered) : Type 0 where
  pub known : All (Knows s) found.polynomials.items
  pub are : map (family s) found.polynomials.items ≡ answers_by n polynomials output
  pub points : IsSomeAnd found.points (λ h. Denotes s h (points_by n polynomials output))
  pub held : Covers s.held (working_set n (care_list n polynomials output))

-- ---- of a circuit

-- the polynomials of its outputs
abbrev pub output_polynomials : Circuit → List Family
output_polynomials c = map (polynomial_of c) c.outputs

-- the points that are cared for
abbrev pub care_points : Circuit → Option ℕ → Family
care_points c None = power c.inputs
care_points c (Some output) = points_by c.inputs (output_polynomials c) output

-- the answers
abbrev pub answers_of : Circuit → Option ℕ → List Family
answers_of c None = output_polynomials c
answers_of c (Some output) = answers_by c.inputs (output_polynomials c) output

-- what finding them needs
abbrev pub answers_list : Circuit → Option ℕ → List Family
answers_list c None = circuit_list c
answers_list c (Some output) = circuit_list c ++ care_list c.inputs (output_polynomials c) output

-- the nodes that they need, and their terms
abbrev pub answer_nodes : Circuit → Option ℕ → ℕ
answer_nodes c care = length (working_set c.inputs (answers_list c care))

abbrev pub answer_terms : Circuit → Option ℕ → ℕ
answer_terms c care = sum_by length (answers_of c care)

-- ---- what was found

-- the handle is that of the care points, where these are not all points
abbrev pub HoldsPoints : State → Circuit → Option ℕ → Option Handle → Type 0
HoldsPoints s c None points = points ≡ None
HoldsPoints s c (Some output) points = IsSomeAnd points (λ h. Denotes s h (care_points c (Some output)))

-- the handles are those of the answers, and what these needed is held
pub record HoldsAnswers (s : State) (c : Circuit) (care : Option ℕ) (found : Answered) : Type 0 where
  pub known : All (Knows s) found.polynomials.items
  pub are : map (family s) found.polynomials.items ≡ answers_of c care
  pub points : HoldsPoints s c care found.points
  pub held : Covers s.held (working_set c.inputs (answers_list c care))

-- the terms of the answers are given, each from the greatest to the least
abbrev pub FindsAnswers : (slots limit : ℕ) → Circuit → Option ℕ → Result (List Family) TermsRefusal → Type 0
FindsAnswers slots limit c care = let nodes = answer_nodes c care in
    SearchGives slots limit nodes nodes (answer_terms c care) (λ lists. map reverse lists ≡ answers_of c care)
