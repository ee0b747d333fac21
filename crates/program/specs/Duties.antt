-- What is due for the words of a command line and the bytes of a source, as each program says it.
use Rattle.std.specs.Prelude.{◌≡◌, ◌≢◌, ◌⊎◌, ◌≤◌, ◌<◌, Bool, true, false, [], ◌∷◌, ℕ, List, length}
use Rattle.watch.specs.declared.note.Note.{Note}
use Rattle.program.specs.Outcomes.{HasText, IsOwnStatus, Way}
use Rattle.program.specs.declared.outcome.Outcome.{Outcome}
use Rattle.program.specs.declared.outcome.Outcome.TheVariants as ends

-- how a run ends, the texts that out gains, one after the other, and what the watchers are told of each, where they are told
pub record Due (E : Type 0) : Type 0 where
  pub outcome : Outcome E
  pub pages : List (List ℕ)
  pub notes : List Note

-- of a run without an answer
abbrev pub silent : {E : Type 0} → Outcome E → Due E
silent o = record { outcome = o; pages = []; notes = [] }

-- of one whose answer is one text, of which nobody is told
abbrev pub paged : {E : Type 0} → Outcome E → List ℕ → Due E
paged o text = record { outcome = o; pages = text ∷ []; notes = [] }

abbrev pub done : {E : Type 0} → List ℕ → Due E
done text = paged ends.Done text

-- what a program is to do: with words that ask for a job, or are refused; and for a job and bytes no more than its limit. It does
-- not say what is due for more bytes, nor for any bytes of a job that reads none
pub record Duty (Job E : Type 0) : Type 1 where
  pub name : List ℕ
  pub usage : List ℕ
  pub way : E → Way
  pub limit : ℕ
  pub IsAsked : List (List ℕ) → Job → Type 0
  pub IsRefused : List (List ℕ) → Type 0
  -- whether memory may run out while the words are read
  pub WordsTakeMemory : Type 0
  pub reads : Job → Bool
  pub IsDue : Job → List ℕ → Due E → Type 0

-- what is due for a job and all the bytes that a source has
pub data IsDueFor {Job E : Type 0} (duty : Duty Job E) (job : Job) (bytes : List ℕ) : Due E → Type 0 where
  unread : (due : Due E) → duty.reads job ≡ false → duty.IsDue job [] due → IsDueFor duty job bytes due
  too_long : duty.reads job ≡ true → duty.limit < length bytes → IsDueFor duty job bytes (silent (ends.TooLong duty.limit))
  within : (due : Due E) → duty.reads job ≡ true → length bytes ≤ duty.limit → duty.IsDue job bytes due → IsDueFor duty job bytes due

-- what a program may say is due: no refusal of the words and no fault; texts and notes only with an answer
pub record IsOwed {Job E : Type 0} (duty : Duty Job E) (due : Due E) : Type 0 where
  pub usage : due.outcome ≢ ends.Usage
  pub read : due.outcome ≢ ends.ReadFault
  pub write : due.outcome ≢ ends.WriteFault
  pub answer : HasText duty.way due.outcome ⊎ (due ≡ silent due.outcome)

-- the words ask for one job at most, and one thing at most is due for it
pub record IsLawful {Job E : Type 0} (duty : Duty Job E) : Type 0 where
  pub apart : (words : List (List ℕ)) (job : Job) → duty.IsRefused words → ¬ duty.IsAsked words job
  pub one_job : (words : List (List ℕ)) (a b : Job) → duty.IsAsked words a → duty.IsAsked words b → a ≡ b
  pub one_due : (job : Job) (bytes : List ℕ) (a b : Due E) → duty.IsDue job bytes a → duty.IsDue job bytes b → a ≡ b
  pub owed : (job : Job) (bytes : List ℕ) (due : Due E) → duty.IsDue job bytes due → IsOwed duty due
  pub own : (e : E) → IsOwnStatus (duty.way e).status

-- so one thing at most is due for a job and all bytes
abbrev pub OneIsDue : {Job E : Type 0} → Duty Job E → Type 0
OneIsDue {Job = Job} {E = E} duty = (job : Job) (bytes : List ℕ) (a b : Due E) → IsDueFor duty job bytes a → IsDueFor duty job bytes b → a ≡ b
