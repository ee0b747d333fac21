use Rattle.lattice.proofs.Diagrams.{join-nil}
use Rattle.node_store.specs.Stores.{family}
use Rattle.node_store.proofs.StoreLaws.{zero_family, Knows-denotes, Builds-known}
use Rattle.node_store.proofs.walk.grow.Goals as goal

pub returns-then-hi-eq0 : goal.returns-then-hi-eq0
returns-then-hi-eq0 g c =
    let s = g.S.Store.state c.args.store.now in let ok = g.met.S.Store.sound c.args.store.now in
    rw (zero_family s c.args.hi ok c.if-hi-eq0.true, join-nil)
    (Builds-known s c.args.lo (family s c.args.lo) ok (Knows-denotes s c.args.lo c.requires.parts.lo_known))
