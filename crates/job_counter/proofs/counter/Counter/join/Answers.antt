use Rattle.std.proofs.Common.{rules}
use Rattle.job_counter.specs.Drawing.{drawing, name}
use Rattle.job_counter.proofs.Keeps.{unites}
use Rattle.job_counter.proofs.counter.Counter.join.Goals as goal

pub join_seat-requires : goal.join_seat-requires
unfolding drawing name
join_seat-requires c = (search rules, search rules, search rules, search rules, unites _ _ _ _)
