use Rattle.std.proofs.Common.{◌≡◌, map, take}
use Rattle.aig_inputs.specs.Arranged.{arranged_gate}
use Rattle.aig_inputs.proofs.arranging.arranged_gates.Given as goal

abbrev pub invariant-loop-gate : goal.invariant-loop-gate
invariant-loop-gate l = l.arranged ≡ map (arranged_gate l.order l.inverted) (take l.gate-index l.gates)
