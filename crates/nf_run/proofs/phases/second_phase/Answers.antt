use Rattle.std.proofs.lemmas.Result.{IfOk-weaker}
use Rattle.node_store.proofs.StoreLaws.{Denotes-knows, Grows-trans}
use Rattle.pla_reader.specs.Reading.{description}
use Rattle.nf_run.proofs.JointSteps.{are_leads, basis_held, elements_planned, phase_planned}
use Rattle.nf_run.proofs.phases.second_phase.Goals as goal

pub first_phase-requires-clause-planned : goal.first_phase-requires-clause-planned
first_phase-requires-clause-planned g c =
    phase_planned (g.S.Store.state c.args.store.now) (description c.args.p.now) c.args.joining c.requires.planned

pub elements-requires-clause-points : goal.elements-requires-clause-points
elements-requires-clause-points g c =
    Denotes-knows (g.S.Store.state c.first_phase.new.store) c.in_ok-found.found.points _ c.in_ok-found.ensures.found.points

pub elements-requires-clause-leads : goal.elements-requires-clause-leads
elements-requires-clause-leads g c =
    are_leads (g.S.Store.state c.args.store.now) (description c.args.p.now) c.args.joining c.requires.planned c.requires.vars _
    c.in_ok-found.ensures.grows c.in_ok-found.found c.in_ok-found.ensures.found c.args.leads.now c.requires.leads

pub elements-requires-clause-planned : goal.elements-requires-clause-planned
elements-requires-clause-planned g c =
    elements_planned (g.S.Store.state c.args.store.now) (description c.args.p.now) c.args.joining c.requires.planned c.requires.vars _
    c.in_ok-found.ensures.grows c.in_ok-found.found c.in_ok-found.ensures.found c.args.leads.now c.requires.leads

pub returns-clause-grows : goal.returns-clause-grows
returns-clause-grows g c = Grows-trans _ _ _ c.in_ok-found.ensures.grows c.elements.ensures.grows

pub returns-clause-elements : goal.returns-clause-elements
returns-clause-elements g c =
    IfOk-weaker c.elements.result _ _ (λ elements. basis_held (g.S.Store.state c.args.store.now) (description c.args.p.now) c.args.joining
    c.requires.planned c.requires.vars _ c.in_ok-found.ensures.grows c.in_ok-found.found c.in_ok-found.ensures.found c.args.leads.now
    c.requires.leads c.elements.ensures.grows) c.elements.ensures.elements
