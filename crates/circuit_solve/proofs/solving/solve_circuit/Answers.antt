use Rattle.std.proofs.lemmas.Result.{err_from_is_err_and}
use Rattle.aig_reader.specs.Reading.{circuit}
use Rattle.circuit_solve.proofs.Limits.{answers_solve, answers_within, stopped_answers}
use Rattle.circuit_solve.proofs.solving.solve_circuit.Goals as goal

pub returns-then-with_basis-clause-solved : goal.returns-then-with_basis-clause-solved
returns-then-with_basis-clause-solved c = rw c.if-with_basis.true c.solve_with_basis.ensures.solved

pub returns-then-with_basis-clause-within : goal.returns-then-with_basis-clause-within
returns-then-with_basis-clause-within c = rw c.if-with_basis.true c.solve_with_basis.ensures.within

pub returns-then-with_basis-clause-refused : goal.returns-then-with_basis-clause-refused
returns-then-with_basis-clause-refused c = rw c.if-with_basis.true c.solve_with_basis.ensures.refused

pub returns-in_err-polynomials-clause-refused : goal.returns-in_err-polynomials-clause-refused
returns-in_err-polynomials-clause-refused c =
    let p = err_from_is_err_and c.from_residual.result c.from_residual.ensures.1 in
    rw (p.1, p.2, c.if-with_basis.false) (stopped_answers c.args.bits c.args.limit (circuit c.args.aig.now) c.args.care
    (record { fits = c.args.aig.now.fits; within = c.requires.care }) c.in_err-polynomials.field-0.0 c.in_err-polynomials.ensures)

pub returns-clause-solved : goal.returns-clause-solved
returns-clause-solved c =
    rw c.if-with_basis.false (answers_solve c.args.bits c.args.limit (circuit c.args.aig.now) c.args.care
    (record { fits = c.args.aig.now.fits; within = c.requires.care }) c.new-basis.ensures c.in_ok-polynomials.ensures)

pub returns-clause-within : goal.returns-clause-within
returns-clause-within c =
    rw c.if-with_basis.false (answers_within c.args.bits c.args.limit (circuit c.args.aig.now) c.args.care
    (record { fits = c.args.aig.now.fits; within = c.requires.care }) c.new-basis.ensures c.in_ok-polynomials.ensures)
