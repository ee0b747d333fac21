use Rattle.aig_reader.proofs.Renaming.{values_as_listed}
use Rattle.aig_reader.proofs.laws.values_as_listed.Goals as goal

pub returns : goal.returns
returns c = values_as_listed
