use Rattle.std.proofs.Common.{◌≡◌}
use Rattle.job_deques.specs.Seats.{way_deque, way_view}
use Rattle.job_deques.proofs.way.Way.steal.Given as goal

abbrev pub invariant-loop-try : goal.invariant-loop-try
invariant-loop-try l = record { deque : way_deque l.self ≡ way_deque l.fn.self; view : way_view l.self ≡ way_view l.fn.self }
