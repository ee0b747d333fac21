use Rattle.std.proofs.Common.{ap, is_some}
use Rattle.node_store.specs.Stores.{family}
use Rattle.node_store.proofs.StoreLaws.{MayHoldAny-later, known_after}
use Rattle.std_monomials.proofs.MonomialNeeds.{standard_closed, any_standard, any_leads}
use Rattle.diagram_tests.proofs.of_std_monomials.both_of.Goals as goal

pub standard-requires-clause-planned : goal.standard-requires-clause-planned
standard-requires-clause-planned g c =
    let s = g.S.Store.state c.family_of.new.store in
    any_standard c.args.vars s c.in_ok-points.points
    (MayHoldAny-later c.args.vars (g.S.Store.state c.args.store.now) s c.family_of.ensures.grows c.requires.any)
    (g.met.S.Store.sound c.family_of.new.store) (ap is_some c.in_ok-points.ensures.ok)

pub leads-requires-clause-closed : goal.leads-requires-clause-closed
leads-requires-clause-closed g c =
    let s = g.S.Store.state c.family_of.new.store in
    standard_closed s.vars (family s c.in_ok-points.points) (family (g.S.Store.state c.standard.new.store) c.in_ok-monos.monos)
    (known_after s c.in_ok-points.points (g.met.S.Store.sound c.family_of.new.store) (ap is_some c.in_ok-points.ensures.ok))
    c.in_ok-monos.ensures.standard

pub leads-requires-clause-planned : goal.leads-requires-clause-planned
leads-requires-clause-planned g c =
    let s = g.S.Store.state c.family_of.new.store in let t = g.S.Store.state c.standard.new.store in
    any_leads c.args.vars t c.in_ok-monos.monos
    (MayHoldAny-later c.args.vars s t c.standard.ensures.gives.grows
    (MayHoldAny-later c.args.vars (g.S.Store.state c.args.store.now) s c.family_of.ensures.grows c.requires.any))
