use Rattle.std.proofs.Common.{◌≡◌, ◌++◌, take}
use Rattle.aig_miter.proofs.moving.push_gates.Given as goal

abbrev pub invariant-loop-gate : goal.invariant-loop-gate
invariant-loop-gate l = l.gates ≡ l.fn.gates ++ take l.gate-index l.more
