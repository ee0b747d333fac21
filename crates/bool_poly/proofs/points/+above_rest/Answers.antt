use Rattle.std.proofs.Common.{ℕ, arith}
use Rattle.lattice.specs.Words.{ones_at}
use Rattle.node_store.proofs.StoreLaws.{Grows-refl, failed, node_builds, node_parts, node_planned, then_call}
use Rattle.bool_poly.proofs.NodeLemmas.{ActsOnParts, at_node, low_call, high_call, lows_planned, highs_planned, one_grown, both_grown}
use Rattle.bool_poly.proofs.NodeLemmas.{above_one, above_constant, above_before, with_planned, with_grown, without}
use Rattle.bool_poly.proofs.points.+above_rest.Goals as goal
use Rattle.bool_poly.proofs.points.+above_rest.Goals.{Else-weight-m}
use Rattle.bool_poly.proofs.points.+above_rest.Given.{Over}

-- where the node's variable is before those of the monomial
by_parts : (g : Over) (t : ℕ) (c : Else-weight-m g t)
    → ActsOnParts (λ v f. ones_at v c.args.m f) (g.S.Store.state c.args.store.now) (g.S.Store.state c.node.new.self) c.args.set c.in-Some.n
by_parts g t c =
    without (at_node (g.met.S.Store.sound c.node.new.self) c.node.ensures.reads c.in-Some.ensures.node c.in-Some.ensures.family)
    c.vars.ensures c.args.m c.requires.planned (omega (arith, c.if-weight-m.false))

pub returns-then-m-eq0 : goal.returns-then-m-eq0
returns-then-m-eq0 g t c = above_one _ _ (g.met.S.Store.sound c.args.store.now) c.requires.known c.if-m-eq0.true

pub returns-in-None : goal.returns-in-None
returns-in-None g t c = grind (arith, above_constant, g.met.S.Store.sound c.args.store.now, g.met.S.Store.sound c.node.new.self)

pub returns-then-weight-m-2 : goal.returns-then-weight-m-2
returns-then-weight-m-2 g t c = grind (arith, above_before, at_node, g.met.S.Store.sound c.node.new.self)

pub above_rest-requires : goal.above_rest-requires
above_rest-requires g t c κs within =
    let at = at_node (g.met.S.Store.sound c.node.new.self) c.node.ensures.reads c.in-Some.ensures.node c.in-Some.ensures.family in
    let high = high_call at (Grows-refl (g.S.Store.state c.node.new.self)) in
    let planned = with_planned at c.vars.ensures c.args.m c.requires.planned c.if-weight-m.true (omega (arith, c.if-weight-m-2.false)) in
    (omega (arith, high.0, c.decreases), (within, (high.1, planned)))

pub grow-requires : goal.grow-requires
grow-requires g t c =
    let at = at_node (g.met.S.Store.sound c.node.new.self) c.node.ensures.reads c.in-Some.ensures.node c.in-Some.ensures.family in
    let ok = g.met.S.Store.sound c.above_rest.new.store in
    let may = with_grown at c.vars.ensures c.args.m c.requires.planned c.if-weight-m.true (omega (arith, c.if-weight-m-2.false)) ok
    c.in_ok-hi-in-Some.ensures in
    record { parts = node_parts may; planned = node_planned may ok }

pub returns-then-weight-m : goal.returns-then-weight-m
returns-then-weight-m g t c =
    let at = at_node (g.met.S.Store.sound c.node.new.self) c.node.ensures.reads c.in-Some.ensures.node c.in-Some.ensures.family in
    node_builds (with_grown at c.vars.ensures c.args.m c.requires.planned c.if-weight-m.true (omega (arith, c.if-weight-m-2.false))
    (g.met.S.Store.sound c.above_rest.new.store) c.in_ok-hi-in-Some.ensures) c.grow.ensures

pub above_rest-requires-in-Some : goal.above_rest-requires-in-Some
above_rest-requires-in-Some g t c κs within =
    let acts = by_parts g t (goal.at.above_rest-requires-in-Some g t c).Else-weight-m in
    (omega (arith, (low_call acts.at).0, c.decreases), (within, ((low_call acts.at).1, lows_planned acts)))

pub returns-in_err-lo-in-Some : goal.returns-in_err-lo-in-Some
returns-in_err-lo-in-Some g t c = failed c.from_residual-in_err-lo-in-Some.ensures.0 c.node.ensures.reads c.in_err-lo-in-Some.ensures

pub grow-requires-then-n : goal.grow-requires-then-n
grow-requires-then-n g t c =
    let may = one_grown (by_parts g t (goal.at.grow-requires-then-n g t c).Else-weight-m) c.in_ok-lo-in-Some.ensures c.if-n.true in
    record { parts = node_parts may; planned = node_planned may (g.met.S.Store.sound c.above_rest-in-Some.new.store) }

pub returns-then-n : goal.returns-then-n
returns-then-n g t c =
    node_builds (one_grown (by_parts g t (goal.at.returns-then-n g t c).Else-weight-m) c.in_ok-lo-in-Some.ensures c.if-n.true)
    c.grow-then-n.ensures

pub above_rest-requires-in-Some-2 : goal.above_rest-requires-in-Some-2
above_rest-requires-in-Some-2 g t c κs within =
    let acts = by_parts g t (goal.at.above_rest-requires-in-Some-2 g t c).Else-weight-m in
    let high = high_call acts.at c.in_ok-lo-in-Some.ensures.grows in
    (omega (arith, high.0, c.decreases), (within, (high.1, highs_planned acts c.in_ok-lo-in-Some.ensures)))

pub returns-in_err-hi-in-Some-2 : goal.returns-in_err-hi-in-Some-2
returns-in_err-hi-in-Some-2 g t c = failed c.from_residual-in_err-hi-in-Some-2.ensures.0
    (then_call c.node.ensures.reads c.in_ok-lo-in-Some.ensures) c.in_err-hi-in-Some-2.ensures

pub grow-requires-in-Some : goal.grow-requires-in-Some
grow-requires-in-Some g t c =
    let acts = by_parts g t (goal.at.grow-requires-in-Some g t c).Else-weight-m in
    let may = both_grown acts c.in_ok-lo-in-Some.ensures c.in_ok-hi-in-Some-2.ensures in
    record { parts = node_parts may; planned = node_planned may (g.met.S.Store.sound c.above_rest-in-Some-2.new.store) }

pub returns-in_ok-hi-in-Some-2 : goal.returns-in_ok-hi-in-Some-2
returns-in_ok-hi-in-Some-2 g t c =
    let acts = by_parts g t (goal.at.returns-in_ok-hi-in-Some-2 g t c).Else-weight-m in
    node_builds (both_grown acts c.in_ok-lo-in-Some.ensures c.in_ok-hi-in-Some-2.ensures) c.grow-in-Some.ensures
