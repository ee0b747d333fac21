use Rattle.diagram_measures.proofs.MeasureLemmas.{nodes_same}
use Rattle.diagram_measures.proofs.laws.nodes_are_subfamilies.Goals as goal

pub returns : goal.returns
returns c = nodes_same
