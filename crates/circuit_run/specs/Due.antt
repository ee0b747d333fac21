-- What is due for a job and the bytes of a source, no more than its limit.
use Rattle.std.specs.Prelude.{◌≡◌, ℕ, ◌^◌, Bool, true, false, List, length, map, is_some, nat_lt, if◌then◌else◌, Option, Some, None, Ok, Err}
use Rattle.std.specs.List.{list_any}
use Rattle.std.specs.Option.{option_map_or}
use Rattle.aig_pairs.specs.Matching.{output_names}
use Rattle.aig_reader.specs.Circuit.{Circuit}
use Rattle.circuit_solve.specs.Answers.{answer_nodes}
use Rattle.circuit_solve.specs.Ones.{AreLeastOnes, one_nodes}
use Rattle.circuit_solve.specs.Laws.{IsAsked}
use Rattle.circuit_solve.specs.Solved.{IsSolved, Solved, first_refused}
use Rattle.circuit_words.specs.declared.job.CircuitJob.{CircuitJob}
use Rattle.circuit_words.specs.declared.job.CircuitMode.{CircuitMode}
use Rattle.circuit_words.specs.declared.job.CircuitMode.TheVariants.{Basis, Count}
use Rattle.program.specs.Duties.{Due, done, paged, silent}
use Rattle.program.specs.declared.outcome.Outcome.{Outcome}
use Rattle.program.specs.declared.outcome.Outcome.TheVariants as ends
use Rattle.set_algebra.specs.declared.refusal.TermsRefusal.{TermsRefusal}
use Rattle.set_algebra.specs.declared.refusal.TermsRefusal.TheVariants as stops
use Rattle.circuit_run.specs.Texts.{answered, counts_text, equal_text, measures_of, polynomials_text}
use Rattle.circuit_run.specs.Subjects.{IsSubject, compares}
use Rattle.circuit_run.specs.Views.{View, view_of}
use Rattle.circuit_run.specs.declared.ends.CircuitEnd.{CircuitEnd}
use Rattle.circuit_run.specs.declared.ends.CircuitEnd.TheVariants.{Different}

-- whether a mode has the basis behind the answers
abbrev pub has_basis : CircuitMode → Bool
has_basis Basis = true
has_basis _ = false

-- ---- how a run ends, and the text that out gains

-- that of a run of circuit
abbrev pub CircuitDue : Type 0
CircuitDue = Due CircuitEnd

-- of one whose terms were not given
abbrev pub stopped : CircuitJob → TermsRefusal → Outcome CircuitEnd
stopped job stops.Full = ends.Exhausted (2 ^ job.nodes)
stopped job stops.Over = ends.Terms job.terms
stopped job stops.Memory = ends.Memory

-- the text of a solution; in mode count it has numbers alone
abbrev pub solution_text : View → Solved → List ℕ
solution_text v s = polynomials_text v.in_names (output_names v.circuit) (answered (length v.circuit.outputs) v.care) s.polynomials s.basis

abbrev pub text_in : CircuitMode → View → Solved → List ℕ
text_in Count v s =
    counts_text (output_names v.circuit) (answered (length v.circuit.outputs) v.care) (map (measures_of v.circuit.inputs) s.polynomials)
text_in _ v s = solution_text v s

-- the first limit that a solution passes: in mode count no terms are listed
abbrev pub first_limit : CircuitMode → (bits limit : ℕ) → View → Solved → Option TermsRefusal
first_limit Count bits limit v s = if nat_lt (2 ^ bits) (answer_nodes v.circuit v.care) then Some stops.Full else None
first_limit mode bits limit v s = first_refused bits limit v.circuit v.care (has_basis mode) s

-- of one that has this solution
abbrev pub with_solution : CircuitJob → View → Solved → CircuitDue
with_solution job v s = option_map_or (λ e. silent (stopped job e)) (first_limit job.mode job.nodes job.terms v s)
    (done (text_in job.mode v s))

-- of one that compares two circuits, by the least point at which each of their outputs differs, where there is one: then it says no
abbrev pub equal_end : List (Option ℕ) → Outcome CircuitEnd
equal_end points = if list_any is_some points then ends.Own Different else ends.Done

abbrev pub with_points : CircuitJob → View → List (Option ℕ) → CircuitDue
with_points job v points =
    if nat_lt (2 ^ job.nodes) (one_nodes v.circuit v.care) then silent (ends.Exhausted (2 ^ job.nodes))
    else paged (equal_end points)
    (equal_text v.in_names (output_names v.circuit) (answered (length v.circuit.outputs) v.care) points)

-- ---- what is due where nothing fails and memory suffices, a constructor for each cause, the first cause first

-- on a view, whose circuit has the output that says which points are cared for, and is one, as each that is read
pub data IsDueOn (job : CircuitJob) (v : View) : CircuitDue → Type 0 where
  solved : (s : Solved) → compares job.mode ≡ false → IsAsked v.circuit v.care → IsSolved v.circuit v.care (has_basis job.mode) s
      → IsDueOn job v (with_solution job v s)
  compared : (points : List (Option ℕ)) → compares job.mode ≡ true → IsAsked v.circuit v.care
      → AreLeastOnes v.circuit v.care points → IsDueOn job v (with_points job v points)

-- for a job and the bytes
pub data IsDue (job : CircuitJob) (bytes : List ℕ) : CircuitDue → Type 0 where
  no_circuit : (end : CircuitEnd) → IsSubject job bytes (Err end) → IsDue job bytes (silent (ends.Own end))
  no_view : (c : Circuit) (end : CircuitEnd) → IsSubject job bytes (Ok c) → view_of job c ≡ Err end → IsDue job bytes (silent (ends.Own end))
  on_view : (c : Circuit) (v : View) (due : CircuitDue) → IsSubject job bytes (Ok c) → view_of job c ≡ Ok v → IsDueOn job v due
      → IsDue job bytes due
