use Rattle.lattice.specs.Words.{level}
use Rattle.node_store.specs.Stores.{family}
use Rattle.bool_poly.proofs.points.+above_rest.Given as goal

-- how many variables there are from the first one of the set on
abbrev pub decreases-above_rest : goal.decreases-above_rest
decreases-above_rest g l = let s = g.S.Store.state l.store.now in level s.vars (family s l.set)
