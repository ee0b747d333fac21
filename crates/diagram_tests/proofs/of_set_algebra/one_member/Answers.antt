use Rattle.std.proofs.Common.{arith}
use Rattle.node_store.specs.PlainOf.{state_of}
use Rattle.node_store.proofs.StoreLaws.{MayHoldAny-made, any_below, any_one}
use Rattle.diagram_tests.proofs.of_set_algebra.one_member.Goals as goal

pub one-requires-clause-below : goal.one-requires-clause-below
one-requires-clause-below g c =
    any_below 62 (state_of c.in_ok-store.store) 5 (omega arith)
    (MayHoldAny-made (state_of c.in_ok-store.store) 62 _ _ c.in_ok-store.ensures.state c.any_plan.ensures)

pub one-requires-clause-planned : goal.one-requires-clause-planned
one-requires-clause-planned g c =
    any_one 62 (state_of c.in_ok-store.store) 5 (omega arith)
    (MayHoldAny-made (state_of c.in_ok-store.store) 62 _ _ c.in_ok-store.ensures.state c.any_plan.ensures)
