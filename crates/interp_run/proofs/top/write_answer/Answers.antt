use Rattle.std.proofs.Common.{arith}
use Rattle.program.specs.Runs.{as_due, cut_off}
use Rattle.program.proofs.Endings.{answers_without}
use Rattle.interp_run.proofs.Due.{silent_jobs, solves_without_gen, without_fault}
use Rattle.interp_run.proofs.top.write_answer.Goals as goal

pub returns-in-Err-clause-answers : goal.returns-in-Err-clause-answers
returns-in-Err-clause-answers g c = answers_without (g.K.Sink.held c.args.out.now)
    (λ has. silent_jobs (solves_without_gen _ c.requires.mode).1) c.in-Err.ensures.err

pub returns-in-Err-clause-write : goal.returns-in-Err-clause-write
returns-in-Err-clause-write g c = λ fault. absurd (without_fault c.in-Err.ensures.err fault)

pub returns-in-Ok-write_pages-clause-answers : goal.returns-in-Ok-write_pages-clause-answers
returns-in-Ok-write_pages-clause-answers g c = as_due _ c.in-Ok.ensures.ok
    (rw c.as_slice.ensures at c.in-Ok-write_pages.ensures.whole) (rw c.as_slice-2.ensures at c.in-Ok-write_pages.ensures.told)
    (λ has. record { enough = λ other. c.in-Ok.ensures.jobs })

pub returns-clause-answers : goal.returns-clause-answers
returns-clause-answers g c = cut_off _ c.in-Ok.ensures.ok (omega arith)
    (rw c.as_slice.ensures at c.in-Err-write_pages.ensures.less)
    (rw (c.as_slice.ensures, c.as_slice-2.ensures) at c.in-Err-write_pages.ensures.stopped)
    (record { enough = λ other. c.in-Ok.ensures.jobs })
