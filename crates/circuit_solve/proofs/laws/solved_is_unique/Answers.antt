use Rattle.circuit_solve.proofs.CareLaws.{solved_unique}
use Rattle.circuit_solve.proofs.laws.solved_is_unique.Goals as goal

pub returns : goal.returns
returns c = solved_unique
