use Rattle.aig_inputs.proofs.ArrangedCircuits.{arranged_values}
use Rattle.aig_inputs.proofs.laws.arranged_values.Goals as goal

pub returns : goal.returns
returns c = arranged_values
