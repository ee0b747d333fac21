use Rattle.std.proofs.Common.{◌+◌, ◌*◌, max}
use Rattle.lattice.specs.Words.{level}
use Rattle.node_store.specs.Stores.{family}
use Rattle.bool_poly.proofs.points.+halves.Given as goal

-- how many variables there are from the first one of the polynomial and the set on
abbrev pub decreases-ones_halves : goal.decreases-ones_halves
decreases-ones_halves g l =
    let s = g.S.Store.state l.store.now in 2 * max (level s.vars (family s l.h)) (level s.vars (family s l.set))

abbrev pub decreases-ones_by : goal.decreases-ones_by
decreases-ones_by g l =
    let s = g.S.Store.state l.store.now in 2 * max (level s.vars (family s l.h)) (level s.vars (family s l.set)) + 1
