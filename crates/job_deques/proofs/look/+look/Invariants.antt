use Rattle.std.proofs.Common.{length}
use Rattle.job_deques.proofs.look.+look.Given as goal

abbrev pub decreases-look : goal.decreases-look
decreases-look l = length l.seats.now
