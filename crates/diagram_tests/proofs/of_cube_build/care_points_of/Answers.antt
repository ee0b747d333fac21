use Rattle.std.proofs.Common.{ap}
use Rattle.std.specs.Option.{is_some}
use Rattle.lattice.specs.Words.{care_list}
use Rattle.lattice.proofs.Diagrams.{covers_left}
use Rattle.node_store.specs.PlainOf.{state_of}
use Rattle.node_store.proofs.StoreLaws.{Grows-knows, Grows-trans}
use Rattle.diagram_tests.proofs.of_cube_build.care_points_of.Goals as goal

pub zeros-requires-clause-planned : goal.zeros-requires-clause-planned
zeros-requires-clause-planned c =
    let p = c.args.p.now in
    rw c.in_ok-store.ensures.plan (covers_left p.inputs _ (care_list p.inputs p.kind p.rows c.args.output) _ (λ f i. i))

pub ones-requires-clause-planned : goal.ones-requires-clause-planned
ones-requires-clause-planned c =
    let p = c.args.p.now in
    rw (c.in_ok-zeros.ensures.grows.plan, c.in_ok-store.ensures.plan)
    (covers_left p.inputs _ (care_list p.inputs p.kind p.rows c.args.output) _ (λ f i. i))

pub care_points-requires-clause-planned : goal.care_points-requires-clause-planned
care_points-requires-clause-planned c =
    rw (c.in_ok-ones.ensures.grows.plan, c.in_ok-zeros.ensures.grows.plan, c.in_ok-store.ensures.plan) (λ f i. i)

pub walk_upto-requires : goal.walk_upto-requires
walk_upto-requires c =
    Grows-knows (state_of c.zeros.new.store) (state_of c.care_points.new.store) c.in_ok-zeros.zeros
    (Grows-trans _ _ _ c.in_ok-ones.ensures.grows c.in_ok-all.ensures.grows) (ap is_some c.in_ok-zeros.ensures.ok)

pub walk_upto-requires-2 : goal.walk_upto-requires-2
walk_upto-requires-2 c =
    Grows-knows (state_of c.ones.new.store) (state_of c.walk_upto.new.store) c.in_ok-ones.ones
    (Grows-trans _ _ _ c.in_ok-all.ensures.grows c.in_ok-zero_points.ensures.reads.grows) (ap is_some c.in_ok-ones.ensures.ok)

pub walk_upto-requires-3 : goal.walk_upto-requires-3
walk_upto-requires-3 c =
    Grows-knows (state_of c.care_points.new.store) (state_of c.walk_upto-2.new.store) c.in_ok-all.all
    (Grows-trans _ _ _ c.in_ok-zero_points.ensures.reads.grows c.in_ok-one_points.ensures.reads.grows) (ap is_some c.in_ok-all.ensures.ok)
