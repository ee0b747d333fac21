use Rattle.std.proofs.Common.{◌≡◌, ◌-◌, get_or, map, take}
use Rattle.aig_pairs.proofs.matching.literals_in_order.Given as goal

abbrev pub invariant-loop-position : goal.invariant-loop-position
invariant-loop-position l = l.arranged ≡ map (λ position. get_or l.literals (position - 1) 0) (take l.position-index l.order)
