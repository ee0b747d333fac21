-- Laws of what is due, and of what mode equal finds. The functions of src/laws.rt have them as their contracts.
use Rattle.std.specs.Prelude.{◌≡◌, ◌≢◌, ◌↔◌, ◌∷◌, [], ◌++◌, ℕ, ◌^◌, ◌<◌, ◌≤◌, Bool, false, not, List, Ok, Option, None, Some, codes}
use Rattle.std.specs.Prelude.{replicate, slice_get, slice_index}
use Rattle.aig_inputs.specs.Arranged.{file_point}
use Rattle.aig_pairs.specs.Laws.{IsSound}
use Rattle.aig_pairs.specs.Matching.{OrdersInputs, input_names, output_names}
use Rattle.aig_reader.specs.Circuit.{Circuit, HasValue}
use Rattle.aig_reader.specs.Reading.{circuit}
use Rattle.aig_reader.specs.declared.circuit.Aig.{Aig}
use Rattle.aig_reader.specs.declared.refusal.Why.TheVariants.{Truncated}
use Rattle.circuit_solve.specs.Care.{IsCared}
use Rattle.circuit_solve.specs.Ones.{IsLeastOne}
use Rattle.circuit_words.specs.Laws.{usual_job}
use Rattle.circuit_words.specs.declared.job.CircuitJob.{CircuitJob}
use Rattle.circuit_words.specs.declared.job.CircuitMode.TheVariants.{Anf, Basis, Count, Equal}
use Rattle.program.specs.Duties.{IsDueFor, done, paged, silent}
use Rattle.program.specs.declared.outcome.Outcome.TheVariants as ends
use Rattle.circuit_run.specs.Due.{CircuitDue, IsDue}
use Rattle.circuit_run.specs.Duty.{circuit_duty}
use Rattle.circuit_run.specs.Subjects.{Compares, IsSubject}
use Rattle.circuit_run.specs.Views.{View, inverted_by, order_by, view_of}
use Rattle.circuit_run.specs.declared.ends.CircuitEnd.TheVariants.{Alone, Care, Different, File, Invert, Order, OtherInputs}

-- something is due for a job and bytes that say this circuit to it
abbrev pub SomeIsDue : Aig → Type 0
SomeIsDue aig = (job : CircuitJob) (bytes : List ℕ) → IsSubject job bytes (Ok (circuit aig)) → (due : CircuitDue) × IsDue job bytes due

-- ---- what mode equal finds, by the two circuits as they stand in their files

-- two circuits, and how their inputs are taken: the order of the first one's, which of these are complemented, and the order in which
-- the second one's have the names of the first one's
pub record TwoCircuits : Type 0 where
  pub first : Circuit
  pub second : Circuit
  pub order : List ℕ
  pub inverted : List Bool
  pub second_order : List ℕ

-- a job compares the two circuits, takes their inputs so, and sees this of where they differ
pub record SeesTwo (job : CircuitJob) (two : TwoCircuits) (v : View) : Type 0 where
  pub first : IsSound two.first
  pub second : IsSound two.second
  pub differences : Circuit
  pub compared : Compares job two.first two.second (Ok differences)
  pub seen : view_of job differences ≡ Ok v
  pub order : order_by (input_names two.first) job.order ≡ Ok two.order
  pub inverted : inverted_by (input_names two.first) job.invert ≡ Ok two.inverted
  pub second_order : OrdersInputs two.first two.second two.second_order

-- what a point of the view is for the first circuit in its file, and for the second one in its: there each input has the bit of the
-- first one's input of its name
abbrev pub first_point : TwoCircuits → (point : ℕ) → ℕ
first_point two point = file_point two.first.inputs two.order two.inverted point

abbrev pub second_point : TwoCircuits → (point : ℕ) → ℕ
second_point two point =
    file_point two.second.inputs two.second_order (replicate two.second.inputs false) (first_point two point)

-- at a point that the first circuit cares for, its output at position j has the value x, and the second one's at position k the value y
pub record HaveValues (two : TwoCircuits) (care : Option ℕ) (j k point : ℕ) (x y : Bool) : Type 0 where
  pub below : point < 2 ^ two.first.inputs
  pub cared : IsCared two.first care (first_point two point)
  pub first : HasValue two.first (first_point two point) (slice_index two.first.outputs j) x
  pub second : HasValue two.second (second_point two point) (slice_index two.second.outputs k) y

-- both outputs differ there
abbrev pub DifferAt : TwoCircuits → (care : Option ℕ) → (j k point : ℕ) → Type 0
DifferAt two care j k point = (x : Bool) × HaveValues two care j k point x (not x)

-- the least point at which they differ, and none where they have the same value at each
abbrev pub IsLeastDifference : TwoCircuits → (care : Option ℕ) → (j k : ℕ) → Option ℕ → Type 0
IsLeastDifference two care j k None = (point : ℕ) (x y : Bool) → HaveValues two care j k point x y → x ≡ y
IsLeastDifference two care j k (Some point) =
    DifferAt two care j k point × ((other : ℕ) → DifferAt two care j k other → point ≤ other)

-- For an output that both circuits print by one name, other than the care output: the least point that is found in the view is none
-- exactly where both have the same value at each point that is cared for, and else it is the least one at which they differ. So the line
-- of this name says `equal`, or says this point.
abbrev pub EqualWhereSame : Type 0
EqualWhereSame = (job : CircuitJob) (two : TwoCircuits) (v : View) (name : List ℕ) (j k : ℕ) (found : Option ℕ) → SeesTwo job two v
    → slice_get (output_names two.first) j ≡ Some name → slice_get (output_names two.second) k ≡ Some name → v.care ≢ Some j
    → IsLeastOne v.circuit v.care (slice_index v.circuit.outputs j) found ↔ IsLeastDifference two v.care j k found

-- ---- what is due for worked files

-- a file in the binary form: one gate, which is 1 where both inputs are
abbrev pub one_gate : List ℕ
one_gate = codes "aig 3 2 0 1 1\n6\n" ++ (2 ∷ 2 ∷ [])

-- files with no gates: both outputs are the input; the second one is ever 1; and one of two inputs
abbrev pub wires : List ℕ
wires = codes "aig 1 1 0 2 0\n2\n2\n"

abbrev pub one_constant : List ℕ
one_constant = codes "aig 1 1 0 2 0\n2\n1\n"

abbrev pub two_inputs : List ℕ
two_inputs = codes "aig 2 2 0 2 0\n2\n2\n"

-- what is due for the first in each mode for one circuit and with each option, and for a file that is cut short; and in mode equal for two
-- of the others: so the premises of the clauses of `circuit_run` are met
abbrev pub DueForExamples : Type 0
DueForExamples =
    IsDueFor circuit_duty (usual_job Anf) one_gate (done (codes "f1 = x1*x2\n"))
    × IsDueFor circuit_duty (record (usual_job Anf) { order = Some (codes "x2,x1") }) one_gate (done (codes "f1 = x2*x1\n"))
    × IsDueFor circuit_duty (record (usual_job Anf) { invert = Some (codes "x1") }) one_gate (done (codes "f1 = ~x1*x2 + x2\n"))
    × IsDueFor circuit_duty (record (usual_job Basis) { care = Some (codes "f1") }) one_gate (done (codes "0 = x2 + 1\n0 = x1 + 1\n"))
    × IsDueFor circuit_duty (usual_job Count) one_gate (done (codes "f1: terms 1, degree 2, nodes 2\n"))
    × IsDueFor circuit_duty (record (usual_job Anf) { order = Some (codes "x1") }) one_gate (silent (ends.Own Order))
    × IsDueFor circuit_duty (record (usual_job Anf) { invert = Some (codes "f1") }) one_gate (silent (ends.Own Invert))
    × IsDueFor circuit_duty (record (usual_job Anf) { care = Some (codes "x1") }) one_gate (silent (ends.Own Care))
    × IsDueFor circuit_duty (usual_job Anf) (codes "aig 3 2") (silent (ends.Own (File 7 Truncated)))
    × IsDueFor circuit_duty (usual_job Equal) (wires ++ wires) (done (codes "f1: equal\nf2: equal\n"))
    × IsDueFor circuit_duty (usual_job Equal) (wires ++ one_constant)
    (paged (ends.Own Different) (codes "f1: equal\nf2: different at x1=0\n"))
    × IsDueFor circuit_duty (record (usual_job Equal) { care = Some (codes "f1") }) (wires ++ one_constant) (done (codes "f2: equal\n"))
    × IsDueFor circuit_duty (usual_job Equal) wires (silent (ends.Own Alone))
    × IsDueFor circuit_duty (usual_job Equal) (wires ++ two_inputs) (silent (ends.Own OtherInputs))
