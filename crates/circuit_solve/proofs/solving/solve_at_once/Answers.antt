use Rattle.std.proofs.Common.{◌∙◌, rules}
use Rattle.std.proofs.lemmas.Result.{err_from_is_err_and, IfErr-weaker}
use Rattle.aig_reader.specs.Reading.{circuit}
use Rattle.circuit_solve.proofs.Limits.{first_covered, found_solved, found_within, leads_by, not_found, solved_with, stopped_early}
use Rattle.circuit_solve.proofs.solving.solve_at_once.Goals as goal

pub leads_in-requires-clause-planned : goal.leads_in-requires-clause-planned
leads_in-requires-clause-planned c = first_covered (circuit c.args.aig.now) c.args.care (search rules)

pub returns-in_err-leads-clause-refused : goal.returns-in_err-leads-clause-refused
returns-in_err-leads-clause-refused c =
    let d = circuit c.args.aig.now in let care = c.args.care in
    let p = err_from_is_err_and c.from_residual-in_err-leads.result c.from_residual-in_err-leads.ensures.1 in
    rw (p.1, p.2) (stopped_early c.args.bits c.args.limit d care (record { fits = c.args.aig.now.fits; within = c.requires.care })
    c.in_err-leads.field-0.0 (leads_by d care (search rules) c.in_err-leads.ensures.leads))

pub returns-clause-solved : goal.returns-clause-solved
returns-clause-solved c =
    let d = circuit c.args.aig.now in let care = c.args.care in
    let leads = leads_by d care (search rules) c.in_ok-leads.ensures.leads in
    let both = solved_with d care (c.in_ok-leads.ensures.grows.capacity ∙ search rules) c.solution_in.ensures in
    found_solved c.args.bits c.args.limit d care (record { fits = c.args.aig.now.fits; within = c.requires.care }) _ leads
    c.solution_in.result both

pub returns-clause-within : goal.returns-clause-within
returns-clause-within c =
    let d = circuit c.args.aig.now in let care = c.args.care in
    let leads = leads_by d care (search rules) c.in_ok-leads.ensures.leads in
    let both = solved_with d care (c.in_ok-leads.ensures.grows.capacity ∙ search rules) c.solution_in.ensures in
    found_within c.args.bits c.args.limit d care (record { fits = c.args.aig.now.fits; within = c.requires.care }) _ leads
    c.solution_in.result both

pub returns-clause-refused : goal.returns-clause-refused
returns-clause-refused c =
    let d = circuit c.args.aig.now in let care = c.args.care in
    let leads = leads_by d care (search rules) c.in_ok-leads.ensures.leads in
    let both = solved_with d care (c.in_ok-leads.ensures.grows.capacity ∙ search rules) c.solution_in.ensures in
    IfErr-weaker c.solution_in.result _ _ (λ e stops other _. stops other)
    (not_found c.args.bits c.args.limit d care (record { fits = c.args.aig.now.fits; within = c.requires.care }) _ leads
    c.solution_in.result both)
