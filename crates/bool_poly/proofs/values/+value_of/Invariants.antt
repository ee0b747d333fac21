use Rattle.lattice.specs.Words.{level}
use Rattle.node_store.specs.Stores.{family}
use Rattle.bool_poly.proofs.values.+value_of.Given as goal

-- how many variables there are from the first one of the polynomial on
abbrev pub decreases-value_of : goal.decreases-value_of
decreases-value_of g l = let s = g.S.Store.state l.store.now in level s.vars (family s l.a)
