-- What the steps of a run find: words that the contract of `circuit_run` does not need.
use Rattle.std.specs.Prelude.{◌≡◌, ℕ, ◌≤◌, List, length, Result, Ok, Err}
use Rattle.pla_reader.specs.declared.order.OrderRefusal.{OrderRefusal}
use Rattle.pla_reader.specs.declared.order.OrderRefusal.TheVariants as unnamed
use Rattle.aig_reader.specs.Circuit.{Circuit}
use Rattle.aig_reader.specs.Reading.{circuit}
use Rattle.aig_reader.specs.declared.circuit.Aig.{Aig}
use Rattle.circuit_solve.specs.Laws.{IsAsked}
use Rattle.program.specs.Duties.{paged}
use Rattle.program.specs.declared.outcome.Outcome.{Outcome}
use Rattle.program.specs.declared.outcome.Outcome.TheVariants as ends
use Rattle.circuit_words.specs.declared.job.CircuitJob.{CircuitJob}
use Rattle.circuit_run.specs.Due.{CircuitDue}
use Rattle.circuit_run.specs.Subjects.{Compares, IsSubject}
use Rattle.circuit_run.specs.Views.{View}
use Rattle.circuit_run.specs.declared.answer.Answer.{Answer}
use Rattle.circuit_run.specs.declared.ends.CircuitEnd.{CircuitEnd}
use Rattle.circuit_run.specs.declared.view.Seen.{Seen}

-- a run ends in one of its own ways, of which this is said, unless memory ran out
abbrev pub EndsBy : (CircuitEnd → Type 0) → Outcome CircuitEnd → Type 0
EndsBy Says (ends.Own end) = Says end
EndsBy Says ends.Memory = Unit {0}
EndsBy Says _ = ⊥

-- it ends so on what is found
abbrev pub IsEndOf : {B : Type 0} → Result B CircuitEnd → Outcome CircuitEnd → Type 0
IsEndOf found = EndsBy (λ end. found ≡ Err end)

-- an answer, or the end that a run has without one, is what is found, unless memory ran out
abbrev pub Finds : {A B : Type 0} → (A → B) → Result A (Outcome CircuitEnd) → Result B CircuitEnd → Type 0
Finds seen (Ok x) found = found ≡ Ok (seen x)
Finds seen (Err o) found = IsEndOf found o

-- how a run ends whose text of names is refused, for this end
abbrev pub unnamed_outcome : CircuitEnd → OrderRefusal → Outcome CircuitEnd
unnamed_outcome end unnamed.Bad = ends.Own end
unnamed_outcome end unnamed.Memory = ends.Memory

-- the view that was found
abbrev pub view : Seen → View
view seen = record { circuit = circuit seen.aig; in_names = seen.in_names; care = seen.care }

-- it has inputs, a name for each, and a circuit with the output that says which points are cared for
pub record IsWhole (v : View) : Type 0 where
  pub some : 1 ≤ v.circuit.inputs
  pub names : length v.in_names ≡ v.circuit.inputs
  pub asked : IsAsked v.circuit v.care

-- the job has no circuit, and its run ends so
abbrev pub IsUnread : CircuitJob → List ℕ → CircuitEnd → Type 0
IsUnread job bytes end = IsSubject job bytes (Err end)

-- two circuits that were read
abbrev pub circuits : Aig × Aig → Circuit × Circuit
circuits pair = (circuit pair.0, circuit pair.1)

-- those whose names match, or the end that a run has with others, is what the job compares, unless memory ran out
abbrev pub FindsDifference : (job : CircuitJob) → (first second : Circuit) → Result Aig (Outcome CircuitEnd) → Type 0
FindsDifference job first second (Ok aig) = Compares job first second (Ok (circuit aig))
FindsDifference job first second (Err o) = EndsBy (λ end. Compares job first second (Err end)) o

-- ---- answers

-- an answer is due
abbrev pub answer_due : Answer → CircuitDue
answer_due answer = paged answer.outcome answer.text
