use Rattle.node_store.proofs.StoreLaws.{Grows-trans}
use Rattle.aig_reader.specs.Reading.{circuit}
use Rattle.circuit_solve.proofs.ElementSteps.{are_leads, elements_planned, first_planned, here_known, second_held}
use Rattle.circuit_solve.proofs.phases.second_phase.Goals as goal

pub first_phase-requires-clause-planned : goal.first_phase-requires-clause-planned
first_phase-requires-clause-planned g c = first_planned (circuit c.args.aig.now) c.args.care _ c.requires.planned

pub elements-requires-clause-points : goal.elements-requires-clause-points
elements-requires-clause-points g c =
    here_known (circuit c.args.aig.now) c.args.care c.requires.vars c.requires.planned c.in_ok-found.ensures.grows c.in_ok-found.found
    c.in_ok-found.ensures.found c.args.leads.now c.requires.leads

pub elements-requires-clause-leads : goal.elements-requires-clause-leads
elements-requires-clause-leads g c =
    are_leads (circuit c.args.aig.now) c.args.care c.requires.vars c.requires.planned c.in_ok-found.ensures.grows c.in_ok-found.found
    c.in_ok-found.ensures.found c.args.leads.now c.requires.leads

pub elements-requires-clause-planned : goal.elements-requires-clause-planned
elements-requires-clause-planned g c =
    elements_planned (circuit c.args.aig.now) c.args.care c.requires.vars c.requires.planned c.in_ok-found.ensures.grows c.in_ok-found.found
    c.in_ok-found.ensures.found c.args.leads.now c.requires.leads

pub returns-in_err-elements-clause-grows : goal.returns-in_err-elements-clause-grows
returns-in_err-elements-clause-grows g c = Grows-trans _ _ _ c.in_ok-found.ensures.grows c.in_err-elements.ensures.grows

pub returns-clause-grows : goal.returns-clause-grows
returns-clause-grows g c = Grows-trans _ _ _ c.in_ok-found.ensures.grows c.in_ok-elements.ensures.grows

pub returns-clause-found : goal.returns-clause-found
returns-clause-found g c =
    second_held (circuit c.args.aig.now) c.args.care c.requires.vars c.requires.planned c.in_ok-found.ensures.grows c.in_ok-found.found
    c.in_ok-found.ensures.found c.args.leads.now c.requires.leads c.in_ok-elements.ensures.grows c.in_ok-elements.ensures.elements
