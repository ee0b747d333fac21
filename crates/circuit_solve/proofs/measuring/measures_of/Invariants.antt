use Rattle.circuit_solve.proofs.MeasureSteps.{Measured}
use Rattle.circuit_solve.proofs.measuring.measures_of.Given as goal

-- those of the polynomials so far
abbrev pub invariant-loop-polynomial : goal.invariant-loop-polynomial
invariant-loop-polynomial g l =
    Measured (g.S.Store.state l.fn.store) l.polynomials (g.S.Store.state l.store) l.polynomial-index l.found.items
