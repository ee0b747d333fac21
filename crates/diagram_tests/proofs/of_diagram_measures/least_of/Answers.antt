use Rattle.node_store.specs.PlainOf.{state_of}
use Rattle.node_store.proofs.StoreLaws.{MayHoldAny-made}
use Rattle.diagram_tests.proofs.of_diagram_measures.least_of.Goals as goal

pub family_of-requires-clause-any : goal.family_of-requires-clause-any
family_of-requires-clause-any c =
    MayHoldAny-made (state_of c.in_ok-store.store) c.args.vars _ _ c.in_ok-store.ensures.state c.any_plan.ensures
