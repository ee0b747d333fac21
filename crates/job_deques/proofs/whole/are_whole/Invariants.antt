use Rattle.std.proofs.Common.{◌≡◌, ◌+◌, ◌++◌, length}
use Rattle.job_deques.specs.Hands.{places, numbers_below}
use Rattle.job_deques.proofs.whole.are_whole.Given as goal

abbrev pub invariant-loop-seat : goal.invariant-loop-seat
invariant-loop-seat l = record {
  can : (goal.iterator-loop-seat).can_next l.seat-iterator × (goal.iterator-loop-seat).is_finite l.seat-iterator;
  places : numbers_below l.next ++ places l.seat-iterator ≡ places l.seats;
  many : l.next + length l.seat-iterator ≡ length l.seats;
}
