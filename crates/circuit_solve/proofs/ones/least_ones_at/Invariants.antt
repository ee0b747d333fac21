use Rattle.circuit_solve.proofs.OneSteps.{HasOnes}
use Rattle.circuit_solve.proofs.ones.least_ones_at.Given as goal

-- those of the polynomials so far
abbrev pub invariant-loop-polynomial : goal.invariant-loop-polynomial
invariant-loop-polynomial g l =
    HasOnes (g.S.Store.state l.fn.store) l.points l.polynomials (g.S.Store.state l.store) l.polynomial-index l.found.items
