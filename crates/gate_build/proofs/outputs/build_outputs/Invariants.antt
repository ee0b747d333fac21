use Rattle.std.proofs.Common.{map, take}
use Rattle.std.specs.List.{AllZip}
use Rattle.node_store.specs.Stores.{Denotes}
use Rattle.node_store.proofs.StoreLaws.{Found}
use Rattle.aig_reader.specs.Reading.{circuit}
use Rattle.gate_build.specs.Polynomials.{polynomial_of}
use Rattle.gate_build.proofs.outputs.build_outputs.Given as goal

-- the outputs before are found
abbrev pub invariant-loop-j : goal.invariant-loop-j
invariant-loop-j g l = record {
  ready : g.O.SetOps.ready l.ops;
  found : Found (g.S.Store.state l.fn.store) (g.S.Store.state l.store) (map (polynomial_of (circuit l.aig)) (take l.j l.aig.outputs));
  polynomials : AllZip (λ literal h. Denotes (g.S.Store.state l.store) h (polynomial_of (circuit l.aig) literal))
      (take l.j l.aig.outputs) (take l.j l.outputs);
}
