use Rattle.std.proofs.Common.{rules}
use Rattle.job_counter.specs.Drawing.{drawing, name}
use Rattle.job_counter.proofs.Keeps.{divides}
use Rattle.job_counter.proofs.counter.Counter.split.Goals as goal

pub split_seat-seat-requires : goal.split_seat-seat-requires
unfolding drawing name
split_seat-seat-requires c = (search rules, search rules, divides _ _ c.requires.few)
