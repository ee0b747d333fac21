use Rattle.aig_pairs.proofs.Matched.{matched_values}
use Rattle.aig_pairs.proofs.laws.matched_values.Goals as goal

pub returns : goal.returns
returns c = matched_values
