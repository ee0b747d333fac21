use Rattle.circuit_run.proofs.Endings.{some_due}
use Rattle.circuit_run.proofs.laws.some_is_due.Goals as goal

pub returns : goal.returns
returns c = some_due c.args.aig.now
