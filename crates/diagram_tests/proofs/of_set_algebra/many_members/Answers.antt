use Rattle.std.proofs.Common.{arith}
use Rattle.node_store.specs.PlainOf.{state_of}
use Rattle.node_store.proofs.StoreLaws.{MayHoldAny-later, MayHoldAny-made, any_below, any_one, any_power, Denotes-knows, Grows-knows}
use Rattle.diagram_tests.proofs.of_set_algebra.many_members.Goals as goal

pub power-requires : goal.power-requires
power-requires g c =
    let s = state_of c.in_ok-store.store in
    record { planned = any_power 62 s (MayHoldAny-made s 62 _ _ c.in_ok-store.ensures.state c.any_plan.ensures) }

pub one-requires-clause-below : goal.one-requires-clause-below
one-requires-clause-below g c =
    let s = state_of c.in_ok-store.store in let t = state_of c.power.new.store in
    let any = MayHoldAny-made s 62 _ _ c.in_ok-store.ensures.state c.any_plan.ensures in
    any_below 62 t 5 (omega arith) (MayHoldAny-later 62 s t c.power.ensures.grows any)

pub one-requires-clause-planned : goal.one-requires-clause-planned
one-requires-clause-planned g c =
    let s = state_of c.in_ok-store.store in let t = state_of c.power.new.store in
    let any = MayHoldAny-made s 62 _ _ c.in_ok-store.ensures.state c.any_plan.ensures in
    any_one 62 t 5 (omega arith) (MayHoldAny-later 62 s t c.power.ensures.grows any)

pub combined-requires : goal.combined-requires
combined-requires g c =
    let s = state_of c.in_ok-store.store in let t = state_of c.power.new.store in let u = state_of c.one.new.store in
    let any = MayHoldAny-made s 62 _ _ c.in_ok-store.ensures.state c.any_plan.ensures in
    record {
      any = MayHoldAny-later 62 t u c.one.ensures.grows (MayHoldAny-later 62 s t c.power.ensures.grows any);
      first = Grows-knows t u c.in_ok-all.all c.one.ensures.grows (Denotes-knows t c.in_ok-all.all _ c.in_ok-all.ensures.ok);
      second = Denotes-knows u c.in_ok-five.five _ c.in_ok-five.ensures.ok;
    }

pub walk_upto-requires : goal.walk_upto-requires
walk_upto-requires g c =
    Grows-knows (state_of c.combined.new.store) (state_of c.count_upto.new.store) c.in_ok-rest.rest c.count_upto.ensures.reads.grows
    c.in_ok-rest.ensures.known.second

pub contains-requires : goal.contains-requires
contains-requires g c =
    Grows-knows (state_of c.count_upto.new.store) (state_of c.walk_upto.new.store) c.in_ok-rest.rest c.walk_upto.ensures.reads.grows
    (Grows-knows (state_of c.combined.new.store) (state_of c.count_upto.new.store) c.in_ok-rest.rest c.count_upto.ensures.reads.grows
    c.in_ok-rest.ensures.known.second)

pub contains-requires-2 : goal.contains-requires-2
contains-requires-2 g c =
    Grows-knows (state_of c.walk_upto.new.store) (state_of c.contains.new.store) c.in_ok-rest.rest c.contains.ensures.reads.grows
    (Grows-knows (state_of c.count_upto.new.store) (state_of c.walk_upto.new.store) c.in_ok-rest.rest c.walk_upto.ensures.reads.grows
    (Grows-knows (state_of c.combined.new.store) (state_of c.count_upto.new.store) c.in_ok-rest.rest c.count_upto.ensures.reads.grows
    c.in_ok-rest.ensures.known.second))
