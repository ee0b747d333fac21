use Rattle.job_deques.proofs.Keeps.{begins}
use Rattle.job_deques.proofs.own.Own.make.Goals as goal

pub fifo_as-requires : goal.fifo_as-requires
fifo_as-requires c = begins
