use Rattle.aig_pairs.proofs.Matched.{matched_with_itself}
use Rattle.aig_pairs.proofs.laws.matched_with_itself.Goals as goal

pub returns : goal.returns
returns c = matched_with_itself
