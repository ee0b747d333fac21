use Rattle.program.proofs.Endings.{one_is_due}
use Rattle.batch_pipe.specs.Batches.{batch_duty}
use Rattle.batch_pipe.proofs.Blocks.{batch_lawful}
use Rattle.batch_pipe.proofs.laws.one_is_due.Goals as goal

pub returns-clause-one : goal.returns-clause-one
returns-clause-one c = one_is_due batch_duty (batch_lawful c.one_is_due.ensures.lawful)

pub returns-clause-lawful : goal.returns-clause-lawful
returns-clause-lawful c = batch_lawful c.one_is_due.ensures.lawful
