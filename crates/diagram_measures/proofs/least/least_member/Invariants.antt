use Rattle.lattice.specs.Words.{level}
use Rattle.node_store.specs.Stores.{family}
use Rattle.diagram_measures.proofs.LeastLemmas.{Goes}
use Rattle.diagram_measures.proofs.least.least_member.Given as goal

-- what is left below, and the weights above it
abbrev pub invariant-loop-node : goal.invariant-loop-node
invariant-loop-node g l = Goes (g.S.Store.state l.fn.store) (g.S.Store.state l.store) l.fn.a l.rest l.above

-- how many variables there are from the first one of the rest on
abbrev pub decreases-loop-node : goal.decreases-loop-node
decreases-loop-node g l = let s = g.S.Store.state l.store in level s.vars (family s l.rest)
