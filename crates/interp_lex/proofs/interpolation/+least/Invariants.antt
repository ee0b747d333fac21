use Rattle.std.proofs.Common.{max}
use Rattle.lattice.specs.Words.{level}
use Rattle.node_store.specs.Stores.{family}
use Rattle.interp_lex.proofs.interpolation.+least.Given as goal

-- how many variables there are from the first one of the two families on
abbrev pub decreases-least : goal.decreases-least
decreases-least g l =
    let s = g.S.Store.state l.store.now in max (level s.vars (family s l.zeros)) (level s.vars (family s l.ones))
