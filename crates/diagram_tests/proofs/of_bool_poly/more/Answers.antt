use Rattle.lattice.specs.Words.{test_of}
use Rattle.lattice.specs.declared.op.Op.TheVariants.{Xor}
use Rattle.node_store.specs.Stores.{family}
use Rattle.node_store.proofs.StoreLaws.{MayHoldAny-later, any_combined}
use Rattle.diagram_tests.proofs.of_bool_poly.more.Goals as goal

pub sum-requires-clause-planned : goal.sum-requires-clause-planned
sum-requires-clause-planned g c =
    let s = g.S.Store.state c.args.store.now in let u = g.S.Store.state c.one.new.store in
    any_combined (test_of Xor) c.args.vars u (family u c.args.a) (family u c.in_ok-other.other)
    (MayHoldAny-later c.args.vars s u c.one.ensures.grows c.requires.ready.any)
