use Rattle.job_deques.proofs.Keeps.{pushes}
use Rattle.job_deques.proofs.own.Own.push.Goals as goal

pub push_as-requires-clause-pushes : goal.push_as-requires-clause-pushes
push_as-requires-clause-pushes c = pushes _ _ _ c.requires
