use Rattle.std.proofs.Common.{rules}
use Rattle.job_counter.specs.Drawing.{drawing, name}
use Rattle.job_counter.proofs.Keeps.{draws}
use Rattle.job_counter.proofs.counter.Counter.draw.Goals as goal

pub fetch_add-requires : goal.fetch_add-requires
unfolding drawing name
fetch_add-requires c = (search rules, search rules, draws _ _ _ c.requires.part)
