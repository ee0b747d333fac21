use Rattle.std.proofs.Common.{arith}
use Rattle.node_store.specs.PlainOf.{state_of}
use Rattle.node_store.proofs.StoreLaws.{MayHoldAny-later, MayHoldAny-made, any_below, any_power, Denotes-knows}
use Rattle.diagram_tests.proofs.AnyNeeds.{any_ones_at}
use Rattle.diagram_tests.proofs.of_bool_poly.points_of_a_monomial.Goals as goal

pub power-requires : goal.power-requires
power-requires g c =
    record { planned = any_power 2 _ (MayHoldAny-made (state_of c.in_ok-store.store) 2 _ _ c.in_ok-store.ensures.state c.any_plan.ensures) }

pub above-requires : goal.above-requires
above-requires g c =
    let t = state_of c.power.new.store in
    let any = MayHoldAny-later 2 _ t c.power.ensures.grows (MayHoldAny-made (state_of c.in_ok-store.store) 2 _ _
    c.in_ok-store.ensures.state c.any_plan.ensures) in
    record {
      below = any_below 2 t 2 (omega arith) any;
      known = Denotes-knows t c.in_ok-all.all _ c.in_ok-all.ensures.ok;
      planned = any_ones_at 2 t 2 _ any;
    }

pub members-requires : goal.members-requires
members-requires g c =
    let any = MayHoldAny-made (state_of c.in_ok-store.store) 2 _ _ c.in_ok-store.ensures.state c.any_plan.ensures in
    let later = MayHoldAny-later 2 _ (state_of c.power.new.store) c.power.ensures.grows any in
    grind (arith, MayHoldAny-later 2 _ (state_of c.above.new.store) c.above.ensures.grows later, Denotes-knows)
