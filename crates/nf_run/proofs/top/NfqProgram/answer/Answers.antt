use Rattle.std.proofs.Common.{◌≢◌, ℕ, List}
use Rattle.program.specs.Duties.{silent}
use Rattle.program.specs.Runs.{EndsWithout, due_without, no_memory}
use Rattle.program.specs.declared.outcome.Outcome.{Outcome}
use Rattle.program.specs.declared.outcome.Outcome.TheVariants as ends
use Rattle.program.proofs.Endings.{answers_done, answers_without}
use Rattle.nf_run.specs.Due.{IsDue}
use Rattle.nf_run.specs.declared.ends.QueryEnd.{QueryEnd}
use Rattle.nf_run.specs.declared.mode.QueryMode.{QueryMode}
use Rattle.nf_run.proofs.Endings.{query_lawful}
use Rattle.nf_run.proofs.top.NfqProgram.answer.Goals as goal

-- an end without an answer is no failed write
without_fault : {mode : QueryMode} {bits : ℕ} {bytes : List ℕ} {o : Outcome QueryEnd} → EndsWithout (IsDue mode bits bytes) o
    → o ≢ ends.WriteFault
without_fault {mode = mode} {bits = bits} {bytes = bytes} (due_without o is) = ((query_lawful bits).owed mode bytes (silent o) is).write
without_fault no_memory = λ e. cc

pub returns-in-Err-clause-answers : goal.returns-in-Err-clause-answers
returns-in-Err-clause-answers g c = answers_without (g.K.Sink.held c.args.out.now) (λ has. tt) c.in-Err.ensures.err

pub returns-in-Err-clause-write : goal.returns-in-Err-clause-write
returns-in-Err-clause-write g c = λ fault. absurd (without_fault c.in-Err.ensures.err fault)

pub returns-in-Ok-clause-answers : goal.returns-in-Ok-clause-answers
returns-in-Ok-clause-answers g c =
    answers_done c.in-Ok.text c.in-Ok.ensures.ok c.write_page.ensures.ends (rw c.as_slice.ensures at c.write_page.ensures.whole)
    (rw c.as_slice.ensures at c.write_page.ensures.less) tt
