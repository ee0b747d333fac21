use Rattle.std.proofs.lemmas.Result.{err_from_is_err_and}
use Rattle.aig_reader.specs.Reading.{circuit}
use Rattle.circuit_solve.proofs.Limits.{found_solved, found_within, not_found, stopped_first}
use Rattle.circuit_solve.proofs.solving.solve_apart.Goals as goal

pub returns-in_err-leads-clause-refused : goal.returns-in_err-leads-clause-refused
returns-in_err-leads-clause-refused c =
    let p = err_from_is_err_and c.from_residual.result c.from_residual.ensures.1 in
    rw (p.1, p.2) (stopped_first c.args.bits c.args.limit (circuit c.args.aig.now) c.args.care
    (record { fits = c.args.aig.now.fits; within = c.requires.care }) c.in_err-leads.field-0.0 c.in_err-leads.ensures)

pub returns-clause-solved : goal.returns-clause-solved
returns-clause-solved c =
    found_solved c.args.bits c.args.limit (circuit c.args.aig.now) c.args.care
    (record { fits = c.args.aig.now.fits; within = c.requires.care }) _ c.in_ok-leads.ensures c.solution_on.result c.solution_on.ensures

pub returns-clause-within : goal.returns-clause-within
returns-clause-within c =
    found_within c.args.bits c.args.limit (circuit c.args.aig.now) c.args.care
    (record { fits = c.args.aig.now.fits; within = c.requires.care }) _ c.in_ok-leads.ensures c.solution_on.result c.solution_on.ensures

pub returns-clause-refused : goal.returns-clause-refused
returns-clause-refused c =
    not_found c.args.bits c.args.limit (circuit c.args.aig.now) c.args.care
    (record { fits = c.args.aig.now.fits; within = c.requires.care }) _ c.in_ok-leads.ensures c.solution_on.result c.solution_on.ensures
