use Rattle.std.proofs.Common.{◌∙◌, rules}
use Rattle.std.proofs.lemmas.Result.{err_from_is_err_and, IfErr-weaker}
use Rattle.pla_reader.specs.Reading.{description}
use Rattle.nf_run.proofs.JointSteps.{basis_by, first_covered, found_joint, found_within, leads_by, not_found, stopped_early}
use Rattle.nf_run.proofs.joint.joint_basis_at_once.Goals as goal

pub leads_in-requires-clause-planned : goal.leads_in-requires-clause-planned
leads_in-requires-clause-planned c = first_covered (description c.args.p.now) c.args.joining (search rules)

pub returns-in_err-leads-clause-refused : goal.returns-in_err-leads-clause-refused
returns-in_err-leads-clause-refused c =
    let d = description c.args.p.now in let how = c.args.joining in
    let p = err_from_is_err_and c.from_residual-in_err-leads.result c.from_residual-in_err-leads.ensures.1 in
    rw (p.1, p.2) (stopped_early c.args.bits c.args.limit d how c.in_err-leads.field-0.0
    (leads_by d how (search rules) c.in_err-leads.ensures.leads))

pub returns-clause-basis : goal.returns-clause-basis
returns-clause-basis c =
    let d = description c.args.p.now in let how = c.args.joining in
    let leads = leads_by d how (search rules) c.in_ok-leads.ensures.leads in
    let basis = basis_by d how (c.in_ok-leads.ensures.grows.capacity ∙ search rules) c.basis_in.ensures in
    found_joint c.args.bits c.args.limit d how _ leads c.basis_in.result basis

pub returns-clause-within : goal.returns-clause-within
returns-clause-within c =
    let d = description c.args.p.now in let how = c.args.joining in
    let leads = leads_by d how (search rules) c.in_ok-leads.ensures.leads in
    let basis = basis_by d how (c.in_ok-leads.ensures.grows.capacity ∙ search rules) c.basis_in.ensures in
    found_within c.args.bits c.args.limit d how _ leads c.basis_in.result basis

pub returns-clause-refused : goal.returns-clause-refused
returns-clause-refused c =
    let d = description c.args.p.now in let how = c.args.joining in
    let leads = leads_by d how (search rules) c.in_ok-leads.ensures.leads in
    let basis = basis_by d how (c.in_ok-leads.ensures.grows.capacity ∙ search rules) c.basis_in.ensures in
    IfErr-weaker c.basis_in.result _ _ (λ e stops other _. stops other)
    (not_found c.args.bits c.args.limit d how _ leads c.basis_in.result basis)
