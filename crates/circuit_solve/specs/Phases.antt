-- The two phases that find a basis: what they find, and what they give.
use Rattle.std.specs.Prelude.{◌≡◌, ℕ, ◌+◌, ◌∷◌, List, [], Option, None, Some, true, Result, length, map, reverse, sum_by}
use Rattle.std.specs.List.{All}
use Rattle.lattice.specs.Basis.{basis_element_of}
use Rattle.lattice.specs.Family.{Covers, Family, power}
use Rattle.lattice.specs.WorkingLists.{basis_element_list, working_set}
use Rattle.node_store.specs.Stores.{Denotes, Knows, State, family}
use Rattle.node_store.specs.declared.store.Handle.{Handle}
use Rattle.aig_reader.specs.Circuit.{Circuit}
use Rattle.set_algebra.specs.declared.refusal.TermsRefusal.{TermsRefusal}
use Rattle.circuit_solve.specs.Answers.{answer_terms, answers_of, care_points}
use Rattle.circuit_solve.specs.Found.{AreFound, SearchGives}
use Rattle.circuit_solve.specs.Solved.{basis_by, care_leads, first_nodes, first_phase_list, last_nodes, second_phase_list, solved, solved_by}
use Rattle.circuit_solve.specs.declared.phases.FirstPhase.{FirstPhase}
use Rattle.circuit_solve.specs.declared.phases.SecondPhase.{SecondPhase}
use Rattle.circuit_solve.specs.declared.solution.Solution.{Solution}

-- the points of a handle, or all points where there is none
abbrev pub points_or_all : State → Option Handle → Family
points_or_all s None = power s.vars
points_or_all s (Some h) = family s h

-- what these need
abbrev pub points_or_all_list : ℕ → Option Handle → List Family
points_or_all_list n None = power n ∷ []
points_or_all_list n (Some h) = []

-- ---- what was found

-- phase 1 was done
pub record HoldsFirst (s : State) (c : Circuit) (care : Option ℕ) (found : FirstPhase) : Type 0 where
  pub known : All (Knows s) found.polynomials.items
  pub are : map (family s) found.polynomials.items ≡ answers_of c care
  pub points : Denotes s found.points (care_points c care)
  pub leads : Denotes s found.leads (care_leads c care)
  pub held : Covers s.held (working_set c.inputs (first_phase_list c care))

-- the handles are of the elements with these leads, and what they needed is held
abbrev pub HoldsElements : State → ℕ → Family → List ℕ → List Handle → Type 0
HoldsElements s n points = AreFound s n (λ m. basis_element_of n m points) (λ m. basis_element_list n m points)

-- phase 2 was done
pub record HoldsSecond (s : State) (c : Circuit) (care : Option ℕ) (found : SecondPhase) : Type 0 where
  pub known : All (Knows s) found.polynomials.items
  pub are : map (family s) found.polynomials.items ≡ answers_of c care
  pub elements_known : All (Knows s) found.elements.items
  pub elements_are : map (family s) found.elements.items ≡ basis_by c care true
  pub held : Covers s.held (working_set c.inputs (second_phase_list c care))

-- ---- what a phase gives

-- phase 1: the leads, from the greatest to the least
abbrev pub FindsLeads : (planned slots limit : ℕ) → Circuit → Option ℕ → Result Family TermsRefusal → Type 0
FindsLeads planned slots limit c care = SearchGives slots limit planned (first_nodes c care true)
    (answer_terms c care + length (care_leads c care)) (λ leads. reverse leads ≡ care_leads c care)

-- phase 2: what solves the circuit
abbrev pub FindsSolved : (slots limit : ℕ) → Circuit → Option ℕ → Result Solution TermsRefusal → Type 0
FindsSolved slots limit c care = let nodes = last_nodes c care true in
    SearchGives slots limit nodes nodes (answer_terms c care + sum_by length (basis_by c care true))
    (λ s. solved s ≡ solved_by c care true)
