use Rattle.std.proofs.Common.{◌∙◌, reverse, sym}
use Rattle.std.proofs.lemmas.List.{length-map}
use Rattle.program.specs.Runs.{no_memory}
use Rattle.circuit_solve.specs.Solved.{solved}
use Rattle.circuit_run.specs.Parts.{view}
use Rattle.circuit_run.proofs.Endings.{listed_due, unlisted_ends}
use Rattle.circuit_run.proofs.Solutions.{elements_are, polynomials_are, solved_count}
use Rattle.circuit_run.proofs.answer.solve_text.Goals as goal

pub returns-in-Err-clause-err : goal.returns-in-Err-clause-err
returns-in-Err-clause-err c = rw c.stop.ensures (unlisted_ends c.args.job.now (view c.args.seen.now) c.requires.whole.asked
    c.requires.one c.requires.mode c.in-Err.refusal (rw c.has_basis.ensures at c.in-Err.ensures.refused))

pub solution_text-requires-clause-count : goal.solution_text-requires-clause-count
solution_text-requires-clause-count c = rw c.as_slice-polynomials.ensures
    (sym (length-map c.in-Ok.solution.polynomials reverse) ∙ solved_count c.in-Ok.ensures.solved c.requires.whole.asked.within)

pub solution_text-requires-clause-polynomials : goal.solution_text-requires-clause-polynomials
solution_text-requires-clause-polynomials c = rw c.as_slice-polynomials.ensures (polynomials_are c.in-Ok.ensures.solved)

pub solution_text-requires-clause-basis : goal.solution_text-requires-clause-basis
solution_text-requires-clause-basis c = rw c.as_slice.ensures (elements_are c.in-Ok.ensures.solved)

pub returns-in-Ok-solution_text-clause-ok : goal.returns-in-Ok-solution_text-clause-ok
returns-in-Ok-solution_text-clause-ok c =
    rw (c.in-Ok-solution_text.ensures, c.as_slice-polynomials.ensures, c.as_slice.ensures)
    (listed_due c.args.job.now (view c.args.seen.now) c.requires.whole.asked c.requires.one c.requires.mode
    (solved c.in-Ok.solution)
    (rw c.has_basis.ensures at c.in-Ok.ensures.solved) (rw c.has_basis.ensures at c.in-Ok.ensures.within))

pub returns-clause-err : goal.returns-clause-err
returns-clause-err c = no_memory
