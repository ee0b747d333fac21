use Rattle.std.proofs.Common.{ℕ, ◌*◌, ◌≤◌, map}
use Rattle.lattice.specs.Words.{numbers_below}
use Rattle.node_store.specs.Stores.{Denotes}
use Rattle.node_store.proofs.StoreLaws.{Found}
use Rattle.aig_reader.specs.Reading.{circuit}
use Rattle.gate_build.specs.Polynomials.{input_polynomial, polynomial_of}
use Rattle.gate_build.specs.Built.{handle_of}
use Rattle.gate_build.proofs.outputs.build_inputs.Given as goal

-- the constant and the inputs before are found
abbrev pub invariant-loop-k : goal.invariant-loop-k
invariant-loop-k g l = record {
  found : Found (g.S.Store.state l.fn.store) (g.S.Store.state l.store) (map (input_polynomial l.aig.inputs) (numbers_below l.k));
  built : (v : ℕ) → v ≤ l.k → Denotes (g.S.Store.state l.store) (handle_of l.handles v) (polynomial_of (circuit l.aig) (2 * v));
}
