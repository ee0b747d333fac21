-- What is measured of the answers of a circuit, and what the search for it gives.
use Rattle.std.specs.Prelude.{◌≡◌, ℕ, ◌<◌, ◌≤◌, List, Option, Result, IfOk, IsErrOf, OnOk, length}
use Rattle.std.specs.Global.{Vec}
use Rattle.std.specs.List.{AllZip}
use Rattle.lattice.specs.Family.{Family}
use Rattle.node_store.specs.declared.refusal.SolveRefusal.{SolveRefusal}
use Rattle.node_store.specs.declared.refusal.SolveRefusal.TheVariants.{Full}
use Rattle.aig_reader.specs.Circuit.{Circuit}
use Rattle.diagram_measures.specs.Measured.{degree_of, nodes_of}
use Rattle.diagram_measures.specs.declared.measured.Measures.{Measures}
use Rattle.circuit_solve.specs.Answers.{answer_nodes, answers_of}
use Rattle.circuit_solve.specs.Care.{AreAnswers}

-- the measures of a polynomial over n variables
pub record IsMeasured (n : ℕ) (p : Family) (m : Measures) : Type 0 where
  pub terms : m.terms ≡ length p
  pub degree : m.degree ≡ degree_of p
  pub nodes : m.nodes ≡ nodes_of n p

-- the measures of the answers, in order
abbrev pub AreMeasured : Circuit → Option ℕ → List Measures → Type 0
AreMeasured c care found = (answers : List Family) × AreAnswers c care answers × AllZip (IsMeasured c.inputs) answers found

-- they are given where the answers fit a store of so many slots, and else it is full of them, unless memory ran out
pub record FindsMeasures (slots : ℕ) (c : Circuit) (care : Option ℕ) (result : Result (Vec Measures) SolveRefusal) : Type 0 where
  pub measures : IfOk result (λ found. AllZip (IsMeasured c.inputs) (answers_of c care) found.items)
  pub fits : OnOk result (answer_nodes c care ≤ slots)
  pub exhausted : IsErrOf result Full → slots < answer_nodes c care
