use Rattle.std.proofs.Common.{◌≡◌, ◌++◌, length}
use Rattle.job_deques.proofs.make.list_seats.Given as goal

abbrev pub invariant-loop-seat : goal.invariant-loop-seat
invariant-loop-seat l = l.seats.items ++ l.list ≡ l.fn.seats.items

abbrev pub decreases-loop-seat : goal.decreases-loop-seat
decreases-loop-seat l = length l.seats.items
