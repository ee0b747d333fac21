use Rattle.std.proofs.Common.{refl}
use Rattle.program.specs.Runs.{refused}
use Rattle.nf_run.proofs.top.NfqProgram.job_of.Goals as goal

pub returns-in-None-clause-err : goal.returns-in-None-clause-err
returns-in-None-clause-err c = refused (c.in-None.ensures.refused refl)
