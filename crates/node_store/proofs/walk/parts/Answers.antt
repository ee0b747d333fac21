use Rattle.node_store.proofs.walk.parts.Goals as goal

pub returns : goal.returns
returns g c =
    let node = c.node-node.ensures in
    let both = c.parts_of.ensures (g.S.Store.state c.args.store.now) (g.S.Store.state c.node-node.new.self)
    (g.met.S.Store.sound c.args.store.now) (g.met.S.Store.sound c.node-node.new.self) node.reads.grows c.requires.known
    (record { constant = node.constant; is_node = node.node; family_is = node.family })
    c.requires.first c.requires.last c.requires.after in
    record { reads = node.reads; without = both.0; with_var = both.1 }
