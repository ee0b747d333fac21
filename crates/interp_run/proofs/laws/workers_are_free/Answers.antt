use Rattle.interp_run.proofs.Due.{free_for}
use Rattle.interp_run.proofs.laws.workers_are_free.Goals as goal

pub returns : goal.returns
returns c = λ job workers bytes due is. free_for job workers bytes due is
