-- A file that has no answer has a status alone.
use Rattle.std.proofs.Common.{◌≡◌, ◌≢◌, ◌<◌, ℕ, List, [], Result, Ok, Err, inl, inr, length, not, refl, true}
use Rattle.std.specs.Prelude.{IfOk, IsOk}
use Rattle.lattice.specs.declared.Memory.{Memory}
use Rattle.cli_words.specs.declared.job.Job.{Job}
use Rattle.file_batch.specs.declared.answerer.FileAnswer.{FileAnswer}
use Rattle.program.specs.Duties.{IsDueFor, silent, too_long}
use Rattle.program.specs.Outcomes.{status_of}
use Rattle.program.specs.Runs.{EndsWithout, due_without, no_memory}
use Rattle.pla_reader.specs.declared.reading.TheConstants.{MOST_BYTES}
use Rattle.program.specs.declared.outcome.Outcome.{Outcome}
use Rattle.program.specs.declared.outcome.Outcome.TheVariants as ends
use Rattle.interp_run.specs.Due.{is_gen}
use Rattle.interp_run.specs.Duty.{interp_duty}
use Rattle.interp_run.specs.declared.ends.OwnEnd.{OwnEnd}
use Rattle.batch_pipe.specs.Batches.{IsAnsweredAlone, Solves}

module _ (job : Job) (bytes : List ℕ) (o : Outcome OwnEnd) where
  -- an answer by its status alone
  abbrev pub HasStatus : Result FileAnswer Memory → Type 0
  HasStatus r = IfOk r (λ a. (a.status ≡ status_of interp_duty.way o) × (a.pages ≡ []))

  pub due_alone : (r : Result FileAnswer Memory) → IsDueFor interp_duty job bytes (silent o) → HasStatus r
      → IfOk r (λ a. IsAnsweredAlone job bytes a.status a.pages)
  due_alone (Ok a) is has = record { due = silent o; is_due = is; status_is = has.0; pages_are = has.1 }
  due_alone (Err e) is has = tt

pub ends_alone : (job : Job) (bytes : List ℕ) {o : Outcome OwnEnd} (r : Result FileAnswer Memory)
    → EndsWithout (IsDueFor interp_duty job bytes) o → HasStatus job bytes o r → (IsOk r → o ≢ ends.Memory)
    → IfOk r (λ a. IsAnsweredAlone job bytes a.status a.pages)
ends_alone job bytes r (due_without o is) has remembered = due_alone job bytes o r is has
ends_alone job bytes (Ok a) no_memory has remembered = absurd (remembered refl refl)
ends_alone job bytes (Err e) no_memory has remembered = tt

reads : (job : Job) → Solves job.mode → not (is_gen job.mode) ≡ true
reads job (inl anf) = rw anf refl
reads job (inr basis) = rw basis refl

-- too many bytes
pub long_alone : (job : Job) (bytes : List ℕ) → Solves job.mode → MOST_BYTES < length bytes
    → IsDueFor interp_duty job bytes (silent (ends.TooLong MOST_BYTES))
long_alone job bytes solves over = too_long (reads job solves) over
