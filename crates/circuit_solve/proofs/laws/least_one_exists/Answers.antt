use Rattle.circuit_solve.proofs.OneLaws.{least_one_exists}
use Rattle.circuit_solve.proofs.laws.least_one_exists.Goals as goal

pub returns : goal.returns
returns c = least_one_exists
