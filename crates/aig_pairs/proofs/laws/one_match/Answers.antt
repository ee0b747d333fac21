use Rattle.aig_pairs.proofs.Matched.{one_match}
use Rattle.aig_pairs.proofs.laws.one_match.Goals as goal

pub returns : goal.returns
returns c = one_match
