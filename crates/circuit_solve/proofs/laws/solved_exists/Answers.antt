use Rattle.circuit_solve.proofs.CareLaws.{solved_exists}
use Rattle.circuit_solve.proofs.laws.solved_exists.Goals as goal

pub returns : goal.returns
returns c = solved_exists
