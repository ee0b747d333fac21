use Rattle.std.proofs.Common.{is_some, ap}
use Rattle.node_store.specs.PlainOf.{state_of}
use Rattle.node_store.specs.PlainLaws.{empty_known}
use Rattle.node_store.proofs.StoreLaws.{MayHoldAny-made}
use Rattle.diagram_tests.proofs.of_set_algebra.two_families.Goals as goal

pub pair-requires-clause-ready : goal.pair-requires-clause-ready
pair-requires-clause-ready g c =
    let s = c.in_ok-store.store in
    let known = ap is_some (empty_known s.vars s.capacity s.plan.families s.refused s.nodes.keys) in
    let any = MayHoldAny-made (state_of c.in_ok-store.store) 2 _ _ c.in_ok-store.ensures.state c.any_plan.ensures in
    record { any = any; first = known; second = known }
