use Rattle.diagram_measures.proofs.MeasureLemmas.{degree_is_met, degree_is_most}
use Rattle.diagram_measures.proofs.laws.degree_is_greatest.Goals as goal

pub returns : goal.returns
returns c = λ f. (degree_is_most f, degree_is_met f)
