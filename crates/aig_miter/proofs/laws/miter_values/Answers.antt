use Rattle.aig_miter.proofs.Miters.{miter_values}
use Rattle.aig_miter.proofs.laws.miter_values.Goals as goal

pub returns : goal.returns
returns c = miter_values
