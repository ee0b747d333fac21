use Rattle.diagram_tests.proofs.ListedPoints.{leads}
use Rattle.diagram_tests.proofs.of_vanish_basis.two_variables.Goals as goal

pub element-requires-clause-lead : goal.element-requires-clause-lead
element-requires-clause-lead g c = leads.0

pub element-requires-2-clause-lead : goal.element-requires-2-clause-lead
element-requires-2-clause-lead g c = leads.1

pub element-requires-3-clause-lead : goal.element-requires-3-clause-lead
element-requires-3-clause-lead g c = leads.2
