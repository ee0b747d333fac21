use Rattle.nf_run.proofs.ReducedSteps.{SumsTerms}
use Rattle.nf_run.proofs.reduction.polynomial_of.Given as goal

-- the sum of the terms so far
abbrev pub invariant-loop-term : goal.invariant-loop-term
invariant-loop-term g l = SumsTerms (g.S.Store.state l.fn.store) (g.S.Store.state l.store) l.terms l.term-index l.sum
