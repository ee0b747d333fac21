use Rattle.circuit_solve.proofs.ElementSteps.{element_planned, lead_there}
use Rattle.circuit_solve.proofs.phases.elements.Goals as goal

pub basis_element-requires-clause-lead : goal.basis_element-requires-clause-lead
basis_element-requires-clause-lead g c =
    lead_there (g.S.Store.state c.args.store.now) c.args.points c.args.leads.now c.requires.points c.requires.leads c.requires.planned
    _ _ _ _ _ c.in-Some.ensures.steps c.loop-lead.invariant

pub basis_element-requires-clause-planned : goal.basis_element-requires-clause-planned
basis_element-requires-clause-planned g c =
    element_planned (g.S.Store.state c.args.store.now) c.args.points c.args.leads.now c.requires.points c.requires.leads c.requires.planned
    _ _ _ _ _ c.in-Some.ensures.steps c.loop-lead.invariant
