use Rattle.interp_run.proofs.Due.{yes_right}
use Rattle.interp_run.proofs.laws.yes_is_right.Goals as goal

pub returns : goal.returns
returns c = yes_right
