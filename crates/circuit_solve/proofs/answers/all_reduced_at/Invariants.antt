use Rattle.circuit_solve.proofs.AnswerSteps.{Reduces}
use Rattle.circuit_solve.proofs.answers.all_reduced_at.Given as goal

-- those of the given ones so far
abbrev pub invariant-loop-polynomial : goal.invariant-loop-polynomial
invariant-loop-polynomial g l =
    Reduces (g.S.Store.state l.fn.store) l.points l.given (g.S.Store.state l.store) l.polynomial-index l.found.items
