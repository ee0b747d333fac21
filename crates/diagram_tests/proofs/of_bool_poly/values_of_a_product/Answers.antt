use Rattle.diagram_tests.proofs.AnyNeeds.{ready_made}
use Rattle.diagram_tests.proofs.of_bool_poly.values_of_a_product.Goals as goal

pub more-requires-clause-ready : goal.more-requires-clause-ready
more-requires-clause-ready g c = ready_made c.in_ok-store.store _ c.in_ok-store.ensures.state c.any_plan.ensures
