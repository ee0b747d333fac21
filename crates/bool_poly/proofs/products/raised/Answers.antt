use Rattle.std.proofs.Common.{arith}
use Rattle.node_store.proofs.StoreLaws.{node_builds, node_parts, node_planned}
use Rattle.bool_poly.proofs.NodeLemmas.{sum_planned, raised_grown}
use Rattle.bool_poly.proofs.products.raised.Goals as goal

pub sum-requires-clause-planned : goal.sum-requires-clause-planned
sum-requires-clause-planned g c = grind (arith, sum_planned)

pub grow-requires : goal.grow-requires
grow-requires g c =
    let ok = g.met.S.Store.sound c.sum.new.store in
    let may = raised_grown c.args.a c.parts.result.0 c.parts.result.1 c.requires.first c.requires.last c.requires.after c.requires.planned
    c.parts.ensures.reads
    c.parts.ensures.without c.parts.ensures.with_var ok c.in_ok-with.ensures in
    record { parts = node_parts may; planned = node_planned may ok }

pub returns : goal.returns
returns g c =
    node_builds (raised_grown c.args.a c.parts.result.0 c.parts.result.1 c.requires.first c.requires.last c.requires.after
    c.requires.planned c.parts.ensures.reads
    c.parts.ensures.without c.parts.ensures.with_var
    (g.met.S.Store.sound c.sum.new.store) c.in_ok-with.ensures) c.grow.ensures
