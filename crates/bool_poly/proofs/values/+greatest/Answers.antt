use Rattle.std.proofs.Common.{arith}
use Rattle.node_store.proofs.StoreLaws.{Grows-refl}
use Rattle.bool_poly.proofs.NodeLemmas.{at_node, high_call, node_greatest, node_fits, constant_greatest}
use Rattle.bool_poly.proofs.values.+greatest.Goals as goal

pub greatest-requires : goal.greatest-requires
greatest-requires g t c κs within =
    let high = high_call
    (at_node (g.met.S.Store.sound c.node.new.self) c.node.ensures.reads c.in-Some.ensures.node c.in-Some.ensures.family)
    (Grows-refl (g.S.Store.state c.node.new.self)) in
    (omega (arith, high.0, c.decreases), (within, (high.1, c.in-Some.ensures.node.full)))

pub overflow_add-result : goal.overflow_add-result
overflow_add-result g t c = grind (arith, node_fits, at_node, g.met.S.Store.sound c.node.new.self)

pub returns-in-None-clause-greatest : goal.returns-in-None-clause-greatest
returns-in-None-clause-greatest g t c = grind (arith, constant_greatest, g.met.S.Store.sound c.args.store.now)

pub returns-in-Some-clause-greatest : goal.returns-in-Some-clause-greatest
returns-in-Some-clause-greatest g t c =
    node_greatest (at_node (g.met.S.Store.sound c.node.new.self) c.node.ensures.reads c.in-Some.ensures.node c.in-Some.ensures.family)
    c.vars.ensures c.greatest.ensures.greatest
