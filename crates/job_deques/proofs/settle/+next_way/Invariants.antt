use Rattle.std.proofs.Common.{length}
use Rattle.job_deques.proofs.settle.+next_way.Given as goal

abbrev pub decreases-next_way : goal.decreases-next_way
decreases-next_way l = length l.seats.now
