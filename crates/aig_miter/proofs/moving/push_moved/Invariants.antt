use Rattle.std.proofs.Common.{◌≡◌, ◌++◌, map, take}
use Rattle.aig_miter.specs.Miter.{moved_gate}
use Rattle.aig_miter.proofs.moving.push_moved.Given as goal

abbrev pub invariant-loop-gate : goal.invariant-loop-gate
invariant-loop-gate l = l.gates ≡ l.fn.gates ++ map (moved_gate l.inputs l.others) (take l.gate-index l.moved)
