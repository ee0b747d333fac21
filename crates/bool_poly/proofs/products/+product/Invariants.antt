use Rattle.std.proofs.Common.{◌+◌, ◌-◌, ◌*◌, max}
use Rattle.lattice.specs.Words.{level}
use Rattle.node_store.specs.Stores.{family}
use Rattle.bool_poly.proofs.products.+product.Given as goal

-- how many variables there are from the first one of the two polynomials on, and whether they are out of order
abbrev pub decreases-product : goal.decreases-product
decreases-product g l =
    let s = g.S.Store.state l.store.now in
    2 * max (level s.vars (family s l.a)) (level s.vars (family s l.b)) + (1 - (l.b.0 + 1 - l.a.0))
