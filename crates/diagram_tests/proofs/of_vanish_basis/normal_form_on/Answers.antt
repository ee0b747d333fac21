use Rattle.node_store.specs.Stores.{family}
use Rattle.node_store.proofs.StoreLaws.{MayHoldAny-later}
use Rattle.diagram_tests.proofs.AnyElements.{any_normal_form}
use Rattle.diagram_tests.proofs.of_vanish_basis.normal_form_on.Goals as goal

pub normal_form_of-requires-clause-planned : goal.normal_form_of-requires-clause-planned
normal_form_of-requires-clause-planned g c =
    let n = c.args.vars in let s = g.S.Store.state c.family_of.new.store in
    let any = MayHoldAny-later n (g.S.Store.state c.args.store.now) s c.family_of.ensures.grows c.requires.any in
    any_normal_form n s any c.args.m (family s c.in_ok-points.points)
