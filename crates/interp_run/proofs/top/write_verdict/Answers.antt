use Rattle.std.proofs.Common.{◌∙◌, sym}
use Rattle.program.proofs.Endings.{answers_paged, answers_within, answers_without}
use Rattle.interp_run.proofs.Due.{checked_jobs, judged_fault, judged_is, without_fault}
use Rattle.interp_run.proofs.top.write_verdict.Goals as goal

pub returns-in-Err-clause-answers : goal.returns-in-Err-clause-answers
returns-in-Err-clause-answers g c = λ jobs states.
    answers_without (g.K.Sink.held c.args.out.now) (λ has. checked_jobs c.requires.mode) c.in-Err.ensures.err

pub returns-in-Err-clause-write : goal.returns-in-Err-clause-write
returns-in-Err-clause-write g c = λ fault. absurd (without_fault c.in-Err.ensures.err fault)

pub returns-in-Ok-write_whole-clause-answers : goal.returns-in-Ok-write_whole-clause-answers
returns-in-Ok-write_whole-clause-answers g c = λ jobs states.
    let written = judged_is c.in-Ok.verdict _ c.print_verdict.ensures in
    rw c.end_after.ensures (answers_paged _ _ (rw written.0 at c.in-Ok.ensures.ok)
    (rw (c.as_bytes.ensures.value, c.as_str.ensures.value) at c.in-Ok-write_whole.ensures.whole) (λ has. checked_jobs c.requires.mode))

pub returns-in-Ok-write_whole-clause-write : goal.returns-in-Ok-write_whole-clause-write
returns-in-Ok-write_whole-clause-write g c =
    λ fault. absurd (judged_fault c.in-Ok.verdict (sym c.end_after.ensures ∙ fault))

pub returns-in-Err-write_whole-clause-answers : goal.returns-in-Err-write_whole-clause-answers
returns-in-Err-write_whole-clause-answers g c = λ jobs states.
    let written = judged_is c.in-Ok.verdict _ c.print_verdict.ensures in
    answers_within _ _ (rw written.0 at c.in-Ok.ensures.ok) written.1
    (rw (c.as_bytes.ensures.value, c.as_str.ensures.value) at c.in-Err-write_whole.ensures.less) (checked_jobs c.requires.mode)
