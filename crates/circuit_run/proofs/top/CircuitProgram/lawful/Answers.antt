use Rattle.circuit_run.proofs.Endings.{circuit_lawful}
use Rattle.circuit_run.proofs.top.CircuitProgram.lawful.Goals as goal

pub returns : goal.returns
returns c = circuit_lawful
