use Rattle.diagram_measures.proofs.LeastMembers.{least_member_is_least}
use Rattle.diagram_measures.proofs.laws.least_member_is_least.Goals as goal

pub returns : goal.returns
returns c = least_member_is_least
