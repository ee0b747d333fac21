use Rattle.lattice.specs.Words.{level}
use Rattle.node_store.specs.Stores.{family}
use Rattle.set_algebra.proofs.counted.+count_upto.Given as goal

-- how many variables there are from the first one of the family on
abbrev pub decreases-count_upto : goal.decreases-count_upto
decreases-count_upto g l = let s = g.S.Store.state l.store.now in level s.vars (family s l.a)
