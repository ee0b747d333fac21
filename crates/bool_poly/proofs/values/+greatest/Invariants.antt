use Rattle.lattice.specs.Words.{level}
use Rattle.node_store.specs.Stores.{family}
use Rattle.bool_poly.proofs.values.+greatest.Given as goal

-- how many variables there are from the first one of the polynomial on
abbrev pub decreases-greatest : goal.decreases-greatest
decreases-greatest g l = let s = g.S.Store.state l.store.now in level s.vars (family s l.a)
