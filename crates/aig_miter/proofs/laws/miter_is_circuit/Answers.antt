use Rattle.aig_miter.proofs.Miters.{miter_is_circuit}
use Rattle.aig_miter.proofs.laws.miter_is_circuit.Goals as goal

pub returns : goal.returns
returns c = miter_is_circuit
