use Rattle.circuit_run.proofs.Inhabited.{due_for_examples}
use Rattle.circuit_run.proofs.laws.due_for_examples.Goals as goal

pub returns : goal.returns
returns c = due_for_examples
