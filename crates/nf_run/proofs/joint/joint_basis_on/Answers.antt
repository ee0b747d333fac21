use Rattle.std.proofs.lemmas.Result.{err_from_is_err_and}
use Rattle.pla_reader.specs.Reading.{description}
use Rattle.nf_run.proofs.JointSteps.{found_joint, found_within, not_found, stopped_first}
use Rattle.nf_run.proofs.joint.joint_basis_on.Goals as goal

pub returns-in_err-leads-clause-refused : goal.returns-in_err-leads-clause-refused
returns-in_err-leads-clause-refused c =
    let p = err_from_is_err_and c.from_residual.result c.from_residual.ensures.1 in
    rw (p.1, p.2)
    (stopped_first c.args.bits c.args.limit (description c.args.p.now) c.args.joining c.in_err-leads.field-0.0 c.in_err-leads.ensures)

pub returns-clause-basis : goal.returns-clause-basis
returns-clause-basis c =
    found_joint c.args.bits c.args.limit (description c.args.p.now) c.args.joining _ c.in_ok-leads.ensures c.basis_on.result
    c.basis_on.ensures

pub returns-clause-within : goal.returns-clause-within
returns-clause-within c =
    found_within c.args.bits c.args.limit (description c.args.p.now) c.args.joining _ c.in_ok-leads.ensures c.basis_on.result
    c.basis_on.ensures

pub returns-clause-refused : goal.returns-clause-refused
returns-clause-refused c =
    not_found c.args.bits c.args.limit (description c.args.p.now) c.args.joining _ c.in_ok-leads.ensures c.basis_on.result
    c.basis_on.ensures
