use Rattle.aig_reader.proofs.Values.{some_value}
use Rattle.aig_reader.proofs.laws.some_value.Goals as goal

pub returns : goal.returns
returns c = some_value
