use Rattle.aig_pairs.proofs.Parts.{one_pair}
use Rattle.aig_pairs.proofs.laws.one_pair.Goals as goal

pub returns : goal.returns
returns c = one_pair
