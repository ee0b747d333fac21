use Rattle.lattice.specs.Words.{level}
use Rattle.node_store.specs.Stores.{family}
use Rattle.set_algebra.proofs.counted.+walk_into.Given as goal

-- how many variables there are from the first one of the family on
abbrev pub decreases-walk_into : goal.decreases-walk_into
decreases-walk_into g l = let s = g.S.Store.state l.store.now in level s.vars (family s l.a)
