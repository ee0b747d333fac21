-- For callers: what solves a circuit.
-- Something solves it.
pub use Rattle.circuit_solve.proofs.CareLaws.{solved_exists}
-- One thing alone does.
pub use Rattle.circuit_solve.proofs.CareLaws.{solved_unique}
-- Its outputs have least points at which they are 1.
pub use Rattle.circuit_solve.proofs.OneLaws.{ones_are_least}
-- A literal has one at most.
pub use Rattle.circuit_solve.proofs.OneLaws.{least_one_unique}
