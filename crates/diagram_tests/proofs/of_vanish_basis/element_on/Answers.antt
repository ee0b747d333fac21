use Rattle.node_store.specs.Stores.{family}
use Rattle.node_store.proofs.StoreLaws.{MayHoldAny-later}
use Rattle.diagram_tests.proofs.AnyElements.{any_element}
use Rattle.diagram_tests.proofs.of_vanish_basis.element_on.Goals as goal

pub basis_element-requires-clause-planned : goal.basis_element-requires-clause-planned
basis_element-requires-clause-planned g c =
    let n = c.args.vars in let s = g.S.Store.state c.family_of.new.store in
    let any = MayHoldAny-later n (g.S.Store.state c.args.store.now) s c.family_of.ensures.grows c.requires.any in
    any_element n s any c.args.lead (family s c.in_ok-points.points) c.requires.below
