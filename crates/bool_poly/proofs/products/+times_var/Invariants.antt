use Rattle.lattice.specs.Words.{level}
use Rattle.node_store.specs.Stores.{family}
use Rattle.bool_poly.proofs.products.+times_var.Given as goal

-- how many variables there are from the first one of the polynomial on
abbrev pub decreases-times_var : goal.decreases-times_var
decreases-times_var g l = let s = g.S.Store.state l.store.now in level s.vars (family s l.a)
