use Rattle.std.proofs.Common.{rules}
use Rattle.job_counter.specs.Drawing.{drawing, name}
use Rattle.job_counter.proofs.Keeps.{counts}
use Rattle.job_counter.proofs.counter.Counter.all_drawn.Goals as goal

pub load-requires : goal.load-requires
unfolding drawing name
load-requires c = (search rules, search rules, counts _ _ _)
