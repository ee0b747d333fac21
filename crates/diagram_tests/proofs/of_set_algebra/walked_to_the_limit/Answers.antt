use Rattle.node_store.specs.PlainOf.{state_of}
use Rattle.node_store.proofs.StoreLaws.{MayHoldAny-made, any_power}
use Rattle.diagram_tests.proofs.of_set_algebra.walked_to_the_limit.Goals as goal

pub power-requires : goal.power-requires
power-requires g c =
    let s = state_of c.in_ok-store.store in
    record { planned = any_power 2 s (MayHoldAny-made s 2 _ _ c.in_ok-store.ensures.state c.any_plan.ensures) }
