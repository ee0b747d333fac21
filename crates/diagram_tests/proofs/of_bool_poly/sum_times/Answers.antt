use Rattle.diagram_tests.proofs.AnyNeeds.{ready_made}
use Rattle.diagram_tests.proofs.of_bool_poly.sum_times.Goals as goal

pub more-requires-clause-ready : goal.more-requires-clause-ready
more-requires-clause-ready c = ready_made c.in_ok-store.store _ c.in_ok-store.ensures.state c.any_plan.ensures
