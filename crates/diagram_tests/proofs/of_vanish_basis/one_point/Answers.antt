use Rattle.diagram_tests.proofs.ListedPoints.{leads}
use Rattle.diagram_tests.proofs.of_vanish_basis.one_point.Goals as goal

pub element-requires-clause-lead : goal.element-requires-clause-lead
element-requires-clause-lead g c = leads.3

pub element-requires-2-clause-lead : goal.element-requires-2-clause-lead
element-requires-2-clause-lead g c = leads.4

pub element-requires-3-clause-lead : goal.element-requires-3-clause-lead
element-requires-3-clause-lead g c = leads.5
