use Rattle.std.proofs.Common.{◌≡◌, length}
use Rattle.job_deques.specs.Dealt.{AreFresh}
use Rattle.job_deques.proofs.make.make_fresh.Given as goal

abbrev pub invariant-loop-at : goal.invariant-loop-at
invariant-loop-at l = record { many : length l.seats.items ≡ l.at; fresh : AreFresh l.seats.items }
