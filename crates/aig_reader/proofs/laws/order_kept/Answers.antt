use Rattle.aig_reader.proofs.Placing.{order_kept}
use Rattle.aig_reader.proofs.laws.order_kept.Goals as goal

pub returns : goal.returns
returns c = order_kept
