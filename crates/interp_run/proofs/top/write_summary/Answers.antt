use Rattle.std.proofs.Common.{ap}
use Rattle.program.proofs.Endings.{answers_done, answers_without}
use Rattle.interp_run.specs.Due.{is_gen}
use Rattle.interp_run.proofs.Due.{summary_jobs, without_fault}
use Rattle.interp_run.proofs.top.write_summary.Goals as goal

pub returns-in-Err-clause-answers : goal.returns-in-Err-clause-answers
returns-in-Err-clause-answers g c =
    λ states. answers_without (g.K.Sink.held c.args.out.now) (λ has. absurd (c.in-Err.ensures.unfinished has)) c.in-Err.ensures.err

pub returns-in-Err-clause-write : goal.returns-in-Err-clause-write
returns-in-Err-clause-write g c = λ fault. absurd (without_fault c.in-Err.ensures.err fault)

pub returns-in-Ok-clause-answers : goal.returns-in-Ok-clause-answers
returns-in-Ok-clause-answers g c =
    λ states. answers_done c.in-Ok.text c.in-Ok.ensures.ok c.write_page.ensures.ends (rw c.as_slice.ensures at c.write_page.ensures.whole)
    (rw c.as_slice.ensures at c.write_page.ensures.less) (summary_jobs (ap is_gen c.requires.mode) c.in-Ok.ensures.jobs)
