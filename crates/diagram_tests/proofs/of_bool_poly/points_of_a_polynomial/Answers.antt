use Rattle.std.proofs.Common.{arith}
use Rattle.node_store.specs.PlainOf.{state_of}
use Rattle.node_store.proofs.StoreLaws.{MayHoldAny-later, MayHoldAny-made, any_below, any_one, any_power, Denotes-knows, Grows-knows}
use Rattle.diagram_tests.proofs.of_bool_poly.points_of_a_polynomial.Goals as goal

pub power-requires : goal.power-requires
power-requires g c =
    record { planned = any_power 2 _ (MayHoldAny-made (state_of c.in_ok-store.store) 2 _ _ c.in_ok-store.ensures.state c.any_plan.ensures) }

pub one-requires : goal.one-requires
one-requires g c =
    let any = MayHoldAny-later 2 _ (state_of c.power.new.store) c.power.ensures.grows (MayHoldAny-made (state_of c.in_ok-store.store) 2 _ _
    c.in_ok-store.ensures.state c.any_plan.ensures) in
    record { below = any_below 2 _ 1 (omega arith) any; planned = any_one 2 _ 1 (omega arith) any }

pub points_at-requires : goal.points_at-requires
points_at-requires g c =
    let any = MayHoldAny-made (state_of c.in_ok-store.store) 2 _ _ c.in_ok-store.ensures.state c.any_plan.ensures in
    let later = MayHoldAny-later 2 _ (state_of c.power.new.store) c.power.ensures.grows any in
    grind (arith, MayHoldAny-later 2 _ (state_of c.one.new.store) c.one.ensures.grows later, Denotes-knows, Grows-knows)
