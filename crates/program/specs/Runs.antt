-- What a run owes for the words and the bytes: its outcome, what out gains, and who is told.
use Rattle.std.specs.Prelude.{◌≡◌, true, ℕ, List, Option, Some}
use Rattle.std.specs.List.{concat}
use Rattle.std.specs.Io.KnownBytes.{Appends, Keeps}
use Rattle.outside.specs.Causes.{GainsLess}
use Rattle.watch.specs.Notes.{WatcherState, left_after_all}
use Rattle.program.specs.Outcomes.{HasText, Way}
use Rattle.program.specs.Duties.{Due, Duty, IsDueFor, silent}
use Rattle.program.specs.Pages.{TellsFirst}
use Rattle.program.specs.declared.outcome.Outcome.{Outcome}
use Rattle.program.specs.declared.outcome.Outcome.TheVariants as ends

-- a run ends without an answer: as is due by this, or for want of memory
pub data EndsWithout {E : Type 0} (is_due : Due E → Type 0) : Outcome E → Type 0 where
  due_without : (o : Outcome E) → is_due (silent o) → EndsWithout is_due o
  no_memory : EndsWithout is_due ends.Memory

-- a program answers so on what is due by this: with the outcome that is due, or for want of memory, or because a write failed. The rest
-- says what out gained, who of the watchers is left, and that the program earned its answer, where there is one
pub data Answers {E : Type 0} (own : E → Way) (is_due earned : Due E → Type 0) (old new : Option (List ℕ))
    (before after : List WatcherState) : Outcome E → Type 0 where
  as_due : (due : Due E) → is_due due → Appends old new (concat due.pages) → after ≡ left_after_all due.notes before
      → (HasText own due.outcome → earned due) → Answers own is_due earned old new before after due.outcome
  out_of_memory : Keeps old new → after ≡ before → Answers own is_due earned old new before after ends.Memory
  cut_off : (due : Due E) → is_due due → HasText own due.outcome → GainsLess old new (concat due.pages)
      → TellsFirst old new due.pages due.notes before after → earned due → Answers own is_due earned old new before after ends.WriteFault

-- words give no job: they are refused, or memory ran out while they were read
pub data GivesNoJob {Job E : Type 0} (duty : Duty Job E) (words : List (List ℕ)) : Outcome E → Type 0 where
  refused : duty.IsRefused words → GivesNoJob duty words ends.Usage
  no_memory_for_words : duty.WordsTakeMemory → GivesNoJob duty words ends.Memory

-- a run with these words on these bytes ends so
pub data Ends {Job E : Type 0} (duty : Duty Job E) (earned : Job → Due E → Type 0) (words : List (List ℕ)) (bytes : List ℕ)
    (old new : Option (List ℕ)) (before after : List WatcherState) : Outcome E → Type 0 where
  no_job : (o : Outcome E) → GivesNoJob duty words o → Keeps old new → after ≡ before → Ends duty earned words bytes old new before after o
  read_fault : (job : Job) → duty.IsAsked words job → duty.reads job ≡ true → Keeps old new → after ≡ before
      → Ends duty earned words bytes old new before after ends.ReadFault
  answered : (job : Job) (o : Outcome E) → duty.IsAsked words job
      → Answers duty.way (IsDueFor duty job bytes) (earned job) old new before after o
      → Ends duty earned words bytes old new before after o

-- it ends so on some bytes: those that the source told, where it told them
pub record Ran {Job E : Type 0} (duty : Duty Job E) (earned : Job → Due E → Type 0) (words : List (List ℕ)) (left old new : Option (List ℕ))
    (before after : List WatcherState) (o : Outcome E) : Type 0 where
  pub bytes : List ℕ
  pub told : (all : List ℕ) → left ≡ Some all → bytes ≡ all
  pub ended : Ends duty earned words bytes old new before after o
