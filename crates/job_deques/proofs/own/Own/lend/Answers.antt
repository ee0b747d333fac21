use Rattle.job_deques.proofs.Keeps.{forks}
use Rattle.job_deques.proofs.own.Own.lend.Goals as goal

pub another-taker-requires : goal.another-taker-requires
another-taker-requires c = forks _ _ c.requires
