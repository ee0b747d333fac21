-- Laws of what is due. The functions of src/laws.rt have them as their contracts.
use Rattle.std.specs.Prelude.{◌≡◌, ◌≤◌, ◌↔◌, List, [], ◌∷◌, ◌++◌, ℕ, None, Some, Ok, codes}
use Rattle.lattice.specs.declared.kind.Mode.{Mode}
use Rattle.lattice.specs.declared.kind.Mode.TheVariants.{Anf, Basis, Check, Gen}
use Rattle.pla_reader.specs.Reading.{Description, description}
use Rattle.pla_reader.specs.declared.pla.Pla.{Pla}
use Rattle.cert_check.specs.Faults.{verdict_on}
use Rattle.cert_check.specs.Reading.{answer_reading}
use Rattle.cert_check.specs.Right.{IsRight}
use Rattle.cert_check.specs.declared.answer.GivenOutput.{GivenOutput}
use Rattle.cert_check.specs.declared.refusal.Verdict.TheVariants.{Yes}
use Rattle.cli_words.specs.CommandLine.{mode_name}
use Rattle.cli_words.specs.declared.job.Job.{Job}
use Rattle.interp_run.specs.Answers.{first_nodes, last_nodes}
use Rattle.program.specs.Duties.{IsDueFor, silent}
use Rattle.program.specs.Examples.{two_points}
use Rattle.program.specs.declared.outcome.Outcome.TheVariants as ends
use Rattle.interp_run.specs.Due.{InterpDue, IsDue, file_of, judged}
use Rattle.interp_run.specs.Duty.{IsAsked, IsRefused, interp_duty}
use Rattle.interp_run.specs.declared.ends.OwnEnd.TheVariants.{Order}

-- something is due for a job and bytes whose file is this one
abbrev pub SomeIsDue : Pla → Type 0
SomeIsDue p = (job : Job) (bytes : List ℕ) → file_of job bytes ≡ Ok (description p) → (due : InterpDue) × IsDue job bytes due

-- what is due does not depend on the number of workers
abbrev pub WorkersAreFree : Type 0
WorkersAreFree = (job : Job) (workers : ℕ) (bytes : List ℕ) (due : InterpDue) → IsDueFor interp_duty job bytes due
    → IsDueFor interp_duty (record job { workers = workers }) bytes due

-- phase 1 needs no more nodes than the last phase, so a run whose whole working set fits the slots is not refused for its first phase
abbrev pub FirstWithinLast : Type 0
FirstWithinLast = (d : Description) (mode : Mode) → first_nodes d mode ≤ last_nodes d mode

-- the verdict on an answer that was read is yes exactly where the answer is right
abbrev pub YesIsRight : Type 0
YesIsRight = (p : Pla) (text : List ℕ) (answer : List GivenOutput) → answer_reading (description p) text ≡ Ok answer
    → ((verdict_on (description p) answer ≡ Yes) ↔ IsRight (description p) answer)

-- a job with the limits that words without options ask for
abbrev pub usual_job : Mode → Job
usual_job mode = record { mode = mode; workers = 1; nodes = 19; terms = 1000000; seed = 0; order = None }

-- and one that asks for this order of the inputs
abbrev pub ordered_job : Mode → List ℕ → Job
ordered_job mode order = record (usual_job mode) { order = Some order }

-- words that ask for a job in each mode, and with an order, and words that ask for none
abbrev pub WordsAskForJobs : Type 0
WordsAskForJobs =
    ((mode : Mode) → IsAsked (codes "interp" ∷ mode_name mode ∷ []) (usual_job mode))
    × IsAsked (codes "interp" ∷ codes "anf" ∷ codes "--order" ∷ codes "b,a" ∷ []) (ordered_job Anf (codes "b,a"))
    × IsRefused (codes "interp" ∷ [])

-- what is due for the file of two points, and that in mode gen something is: so the premises of the clauses of `run` are met in each
-- mode, and with an order
abbrev pub DueForTwoPoints : Type 0
DueForTwoPoints =
    IsDueFor interp_duty (usual_job Anf) two_points
    (record { outcome = ends.Done; pages = codes "f = b\n" ∷ []; notes = record { output = 1; terms = 1; basis = 0 } ∷ [] })
    × IsDueFor interp_duty (usual_job Basis) two_points
    (record { outcome = ends.Done; pages = codes "f = b\n0 = a + b\n" ∷ []; notes = record { output = 1; terms = 1; basis = 1 } ∷ [] })
    × IsDueFor interp_duty (usual_job Check) (two_points ++ codes "f = b\n0 = a + b\n") (judged Yes)
    × IsDueFor interp_duty (ordered_job Anf (codes "b,a")) two_points
    (record { outcome = ends.Done; pages = codes "f = a\n" ∷ []; notes = record { output = 1; terms = 1; basis = 0 } ∷ [] })
    × IsDueFor interp_duty (ordered_job Anf (codes "b")) two_points (silent (ends.Own Order))
    × ((bytes : List ℕ) → (due : InterpDue) × IsDueFor interp_duty (usual_job Gen) bytes due)
