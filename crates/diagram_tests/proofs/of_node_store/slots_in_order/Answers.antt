use Rattle.node_store.specs.PlainOf.{state_of}
use Rattle.node_store.proofs.StoreLaws.{MayHoldAny-made}
use Rattle.diagram_tests.proofs.of_node_store.slots_in_order.Goals as goal

pub all_over-requires-clause-any : goal.all_over-requires-clause-any
all_over-requires-clause-any g c = MayHoldAny-made (state_of c.in_ok-store.store) 3 _ _ c.in_ok-store.ensures.state c.any_plan.ensures
