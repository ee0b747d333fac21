use Rattle.node_store.specs.PlainOf.{state_of}
use Rattle.node_store.proofs.StoreLaws.{MayHoldAny-made, any_power}
use Rattle.diagram_tests.proofs.of_diagram_measures.measured_product.Goals as goal

pub power-requires : goal.power-requires
power-requires c =
    let s = state_of c.in_ok-store.store in
    record { planned = any_power c.args.vars s (MayHoldAny-made s c.args.vars _ _ c.in_ok-store.ensures.state c.any_plan.ensures) }
