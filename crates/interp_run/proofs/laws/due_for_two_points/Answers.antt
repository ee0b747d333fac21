use Rattle.interp_run.proofs.Inhabited.{due_for_all}
use Rattle.interp_run.proofs.laws.due_for_two_points.Goals as goal

pub returns : goal.returns
returns c = due_for_all c.generate.ensures.consistent
