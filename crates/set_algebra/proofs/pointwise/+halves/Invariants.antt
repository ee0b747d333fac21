use Rattle.std.proofs.Common.{◌+◌, ◌*◌, max}
use Rattle.lattice.specs.Words.{level}
use Rattle.node_store.specs.Stores.{family}
use Rattle.set_algebra.proofs.pointwise.+halves.Given as goal

-- how many variables there are from the first one of the operands on
abbrev pub decreases-combine_halves : goal.decreases-combine_halves
decreases-combine_halves g l =
    let s = g.S.Store.state l.store.now in 2 * max (level s.vars (family s l.x)) (level s.vars (family s l.y))

abbrev pub decreases-combine_by : goal.decreases-combine_by
decreases-combine_by g l =
    let s = g.S.Store.state l.store.now in 2 * max (level s.vars (family s l.a)) (level s.vars (family s l.b)) + 1
