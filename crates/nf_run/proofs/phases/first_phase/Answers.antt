use Rattle.lattice.proofs.Diagrams.{covers_left}
use Rattle.node_store.proofs.StoreLaws.{Grows-trans}
use Rattle.pla_reader.specs.Reading.{description}
use Rattle.set_algebra.proofs.Calls.{last_planned}
use Rattle.nf_run.specs.Joint.{joint_points_list}
use Rattle.nf_run.proofs.JointSteps.{after_joint, leads_needs, phase_held}
use Rattle.nf_run.proofs.phases.first_phase.Goals as goal

pub joint_points-requires-clause-planned : goal.joint_points-requires-clause-planned
joint_points-requires-clause-planned g c =
    covers_left _ _ (joint_points_list (description c.args.p.now) c.args.joining) _ c.requires.planned

pub leads_of_points-requires-clause-planned : goal.leads_of_points-requires-clause-planned
leads_of_points-requires-clause-planned g c =
    let d = description c.args.p.now in
    last_planned (after_joint d c.args.joining c.requires.vars c.requires.planned c.in_ok-points.ensures)
    (leads_needs d c.args.joining c.requires.vars c.requires.planned c.in_ok-points.ensures)

pub returns-clause-grows : goal.returns-clause-grows
returns-clause-grows g c = Grows-trans _ _ _ c.in_ok-points.ensures.grows c.in_ok-leads.ensures.grows

pub returns-clause-found : goal.returns-clause-found
returns-clause-found g c =
    phase_held (description c.args.p.now) c.args.joining c.requires.vars c.requires.planned c.in_ok-points.ensures c.in_ok-leads.ensures
