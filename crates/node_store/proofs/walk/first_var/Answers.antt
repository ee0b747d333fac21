use Rattle.std.proofs.Common.{sym}
use Rattle.node_store.specs.Stores.{family}
use Rattle.node_store.proofs.StoreLaws.{node_level}
use Rattle.node_store.proofs.walk.first_var.Goals as goal

pub returns-clause-level : goal.returns-clause-level
returns-clause-level g c =
    let s = g.S.Store.state c.args.store.now in
    node_level s (g.S.Store.state c.node.new.self) c.in_ok-n.n (family s c.args.a) (g.met.S.Store.sound c.node.new.self)
    c.in_ok-n.ensures.node c.node.ensures.reads.grows.vars (sym c.in_ok-n.ensures.family)
