use Rattle.std.proofs.Common.{◌≡◌, ℕ}
use Rattle.job_deques.specs.Seats.{Layout, all_took}
use Rattle.job_deques.specs.Hands.{AreWhole, places, ways_in}
use Rattle.job_deques.proofs.settle.settle.Given as goal

abbrev pub invariant-loop-deque : goal.invariant-loop-deque
invariant-loop-deque l = record {
  whole : (fixed : Layout) → AreWhole fixed l.fn.seats → AreWhole fixed l.seats;
  places : places l.seats ≡ places l.fn.seats;
  took : (x : ℕ) → all_took l.seats x ≡ all_took l.fn.seats x;
}

abbrev pub decreases-loop-deque : goal.decreases-loop-deque
decreases-loop-deque l = ways_in l.seats
