use Rattle.std.proofs.Common.{◌≡◌, ℕ}
use Rattle.job_deques.specs.Seats.{StaysAtWork, took}
use Rattle.job_deques.proofs.seat.Seat.steal.Given as goal

abbrev pub invariant-loop-turn : goal.invariant-loop-turn
invariant-loop-turn l = record {
  same : StaysAtWork l.fn.self l.self;
  own : l.self.own ≡ l.fn.self.own;
  took : (x : ℕ) → took l.self x ≡ took l.fn.self x;
}
