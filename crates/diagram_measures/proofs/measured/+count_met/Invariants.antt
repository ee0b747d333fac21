use Rattle.lattice.specs.Words.{level}
use Rattle.node_store.specs.Stores.{family}
use Rattle.diagram_measures.proofs.measured.+count_met.Given as goal

-- how many variables there are from the first one of the family on
abbrev pub decreases-count_met : goal.decreases-count_met
decreases-count_met g l = let s = g.S.Store.state l.store.now in level s.vars (family s l.a)
