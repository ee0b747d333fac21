use Rattle.std.proofs.Common.{◌≡◌, ◌≢◌, ◌∷◌, [], ap, ℕ, List, ⊎_elim}
use Rattle.program.specs.Duties.{Due, paged, silent}
use Rattle.program.specs.Outcomes.{HasText}
use Rattle.program.specs.Runs.{EndsWithout, due_without, no_memory}
use Rattle.program.specs.declared.outcome.Outcome.{Outcome}
use Rattle.program.specs.declared.outcome.Outcome.TheVariants as ends
use Rattle.program.proofs.Endings.{answers_paged, answers_within, answers_without}
use Rattle.circuit_words.specs.declared.job.CircuitJob.{CircuitJob}
use Rattle.circuit_run.specs.Due.{IsDue}
use Rattle.circuit_run.specs.Ends.{end_way}
use Rattle.circuit_run.specs.declared.ends.CircuitEnd.{CircuitEnd}
use Rattle.circuit_run.proofs.Endings.{circuit_lawful}
use Rattle.circuit_run.proofs.top.CircuitProgram.answer.Goals as goal

-- an end without an answer is no failed write
without_fault : {job : CircuitJob} {bytes : List ℕ} {o : Outcome CircuitEnd} → EndsWithout (IsDue job bytes) o → o ≢ ends.WriteFault
without_fault {job = job} {bytes = bytes} (due_without o is) = (circuit_lawful.owed job bytes (silent o) is).write
without_fault no_memory = λ e. cc

-- nor is the end of an answer, which has a text
with_text : {job : CircuitJob} {bytes : List ℕ} (o : Outcome CircuitEnd) (text : List ℕ) → IsDue job bytes (paged o text)
    → HasText end_way o
with_text {job = job} {bytes = bytes} o text is = ⊎_elim (λ has. has)
    (λ none. let pages : text ∷ [] ≡ [] = ap (λ (due : Due CircuitEnd). due.pages) none in absurd cc)
    (circuit_lawful.owed job bytes (paged o text) is).answer

pub returns-in-Err-clause-answers : goal.returns-in-Err-clause-answers
returns-in-Err-clause-answers g c = answers_without (g.K.Sink.held c.args.out.now) (λ has. tt) c.in-Err.ensures.err

pub returns-in-Err-clause-write : goal.returns-in-Err-clause-write
returns-in-Err-clause-write g c = λ fault. absurd (without_fault c.in-Err.ensures.err fault)

pub returns-in-Ok-write_whole-clause-answers : goal.returns-in-Ok-write_whole-clause-answers
returns-in-Ok-write_whole-clause-answers g c =
    answers_paged _ _ c.in-Ok.ensures.ok (rw c.as_slice.ensures at c.in-Ok-write_whole.ensures.whole) (λ has. tt)

pub returns-in-Ok-write_whole-clause-write : goal.returns-in-Ok-write_whole-clause-write
returns-in-Ok-write_whole-clause-write g c =
    λ fault. absurd ((circuit_lawful.owed _ _ _ c.in-Ok.ensures.ok).write fault)

pub returns-clause-answers : goal.returns-clause-answers
returns-clause-answers g c =
    answers_within _ _ c.in-Ok.ensures.ok (with_text _ _ c.in-Ok.ensures.ok)
    (rw c.as_slice.ensures at c.in-Err-write_whole.ensures.less) tt
