use Rattle.std.proofs.Common.{◌≤◌, ◌-◌}
use Rattle.lattice.specs.declared.limits.TheConstants.{MIN_BITS}
use Rattle.circuit_solve.proofs.ones.least_ones_within.Given as goal

abbrev pub invariant-loop-tried : goal.invariant-loop-tried
invariant-loop-tried l = (MIN_BITS ≤ l.tried) × (l.tried ≤ l.bits)

abbrev pub decreases-loop-tried : goal.decreases-loop-tried
decreases-loop-tried l = l.bits - l.tried
