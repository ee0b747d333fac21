use Rattle.lattice.specs.Words.{level}
use Rattle.node_store.specs.Stores.{family}
use Rattle.std_monomials.proofs.monomials.+standard.Given as goal

-- how many variables there are from the first one of the points on
abbrev pub decreases-standard : goal.decreases-standard
decreases-standard g l = let s = g.S.Store.state l.store.now in level s.vars (family s l.points)
