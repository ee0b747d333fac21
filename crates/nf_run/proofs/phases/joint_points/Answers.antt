use Rattle.lattice.proofs.Diagrams.{covers_left}
use Rattle.pla_reader.specs.Reading.{description}
use Rattle.cube_build.specs.CarePoints.{points_list}
use Rattle.set_algebra.proofs.Calls.{built_planned, call_failed, call_planned}
use Rattle.nf_run.proofs.JointSteps.{after_first, after_second, joined_is, joint_given, joint_start, over_store}
use Rattle.nf_run.proofs.phases.joint_points.Goals as goal

pub care_points-requires-clause-planned : goal.care_points-requires-clause-planned
care_points-requires-clause-planned g c = covers_left _ _ (points_list (description c.args.p.now) 1) _ c.requires.planned

pub returns-in_err-first : goal.returns-in_err-first
returns-in_err-first g c =
    call_failed (joint_start (description c.args.p.now) c.args.joining c.requires.vars c.requires.planned)
    c.from_residual.ensures.0 c.in_err-first.ensures

pub care_points-requires-2-clause-planned : goal.care_points-requires-2-clause-planned
care_points-requires-2-clause-planned g c =
    let d = description c.args.p.now in
    let k = after_first d c.args.joining c.requires.vars c.requires.planned c.in_ok-first.ensures in
    call_planned (points_list d 2) _ k (over_store _ c.requires.vars)

pub returns-in_err-second : goal.returns-in_err-second
returns-in_err-second g c =
    call_failed (after_first (description c.args.p.now) c.args.joining c.requires.vars c.requires.planned c.in_ok-first.ensures)
    c.from_residual-in_err-second.ensures.0 c.in_err-second.ensures

pub joined-requires-clause-planned : goal.joined-requires-clause-planned
joined-requires-clause-planned g c =
    let d = description c.args.p.now in
    built_planned (after_second d c.args.joining c.requires.vars c.requires.planned c.in_ok-first.ensures c.in_ok-second.ensures)
    (joined_is d c.args.joining c.requires.vars c.requires.planned c.in_ok-first.ensures c.in_ok-second.ensures)

pub returns : goal.returns
returns g c =
    joint_given (description c.args.p.now) c.args.joining c.requires.vars c.requires.planned c.in_ok-first.ensures
    c.in_ok-second.ensures _ c.joined.ensures
