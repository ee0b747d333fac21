use Rattle.std.proofs.Common.{◌+◌, take}
use Rattle.std.specs.List.{flat_map}
use Rattle.node_store.proofs.StoreLaws.{Found}
use Rattle.aig_reader.specs.Reading.{circuit}
use Rattle.gate_build.specs.Polynomials.{polynomial_of}
use Rattle.gate_build.specs.Steps.{step_list}
use Rattle.gate_build.specs.Built.{AreBuilt}
use Rattle.gate_build.proofs.outputs.build_gates.Given as goal

-- the gates before are found
abbrev pub invariant-loop-k : goal.invariant-loop-k
invariant-loop-k g l = record {
  ready : g.O.SetOps.ready l.ops;
  found : Found (g.S.Store.state l.fn.store) (g.S.Store.state l.store)
      (flat_map (step_list l.aig.inputs (polynomial_of (circuit l.aig))) (take l.k l.steps));
  built : AreBuilt (g.S.Store.state l.store) (circuit l.aig) (l.aig.inputs + 1 + l.k) l.handles;
}
