use Rattle.circuit_solve.proofs.OneLaws.{least_one_unique}
use Rattle.circuit_solve.proofs.laws.least_one_is_unique.Goals as goal

pub returns : goal.returns
returns c = least_one_unique
