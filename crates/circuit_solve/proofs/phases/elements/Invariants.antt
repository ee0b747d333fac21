use Rattle.circuit_solve.proofs.ElementSteps.{Elements}
use Rattle.circuit_solve.proofs.phases.elements.Given as goal

-- the elements of the leads before the rest
abbrev pub invariant-loop-lead : goal.invariant-loop-lead
invariant-loop-lead g l =
    Elements (g.S.Store.state l.fn.store) (g.S.Store.state l.store) l.points l.leads l.lead-iterator.iter.rest.now l.found.items
