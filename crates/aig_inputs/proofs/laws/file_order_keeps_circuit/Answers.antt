use Rattle.aig_inputs.proofs.ArrangedCircuits.{file_order_keeps_circuit}
use Rattle.aig_inputs.proofs.laws.file_order_keeps_circuit.Goals as goal

pub returns : goal.returns
returns c = file_order_keeps_circuit
