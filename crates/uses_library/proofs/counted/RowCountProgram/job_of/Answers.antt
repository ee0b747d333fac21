use Rattle.std.proofs.Common.{arith}
use Rattle.program.specs.Runs.{refused}
use Rattle.uses_library.proofs.counted.RowCountProgram.job_of.Goals as goal

pub returns-else-count-eq1-clause-err : goal.returns-else-count-eq1-clause-err
returns-else-count-eq1-clause-err c = refused (λ one. absurd (omega (arith, one, c.if-count-eq1.false, c.count.ensures.count)))
