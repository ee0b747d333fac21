use Rattle.diagram_tests.proofs.ListedPoints.{leads}
use Rattle.diagram_tests.proofs.of_vanish_basis.even_points.Goals as goal

pub element-requires-clause-lead : goal.element-requires-clause-lead
element-requires-clause-lead g c = leads.6
