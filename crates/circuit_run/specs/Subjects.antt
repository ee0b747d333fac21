-- The circuit that a job looks at: that of the bytes; in mode equal one whose outputs are 1 where those of two circuits differ.
use Rattle.std.specs.Prelude.{◌≡◌, Bool, true, false, ℕ, List, length, nat_lt, if◌then◌else◌, Option, Result, Ok, Err}
use Rattle.std.specs.Result.{result_map_both}
use Rattle.aig_miter.specs.Miter.{miter}
use Rattle.aig_pairs.specs.Laws.{IsSound}
use Rattle.aig_pairs.specs.Matching.{Matches, output_names}
use Rattle.aig_pairs.specs.Pairs.{ReadsPair}
use Rattle.aig_pairs.specs.declared.matching.MatchRefusal.TheVariants as unmatched
use Rattle.aig_pairs.specs.declared.pairs.PairRefusal.TheVariants as unpaired
use Rattle.aig_reader.specs.Circuit.{Circuit}
use Rattle.aig_reader.specs.Reading.{IsReading}
use Rattle.aig_reader.specs.declared.circuit.TheConstants.{MAX_GATES}
use Rattle.aig_reader.specs.declared.refusal.Refusal.{Refusal}
use Rattle.circuit_words.specs.declared.job.CircuitJob.{CircuitJob}
use Rattle.circuit_words.specs.declared.job.CircuitMode.{CircuitMode}
use Rattle.circuit_words.specs.declared.job.CircuitMode.TheVariants.{Equal}
use Rattle.circuit_run.specs.Views.{◌>>=◌, care_by}
use Rattle.circuit_run.specs.declared.ends.CircuitEnd.{CircuitEnd}
use Rattle.circuit_run.specs.declared.ends.CircuitEnd.TheVariants.{Alone, File, OtherInputs, OtherOutputs, TooManyGates}

-- whether a mode compares two circuits
abbrev pub compares : CircuitMode → Bool
compares Equal = true
compares _ = false

-- how a run ends whose file is refused
abbrev pub file_end : Refusal → CircuitEnd
file_end refusal = File refusal.byte refusal.why

-- the circuit whose outputs are 1 where those of two circuits differ, where it has no more gates than a circuit may have
abbrev pub miter_within : (first second : Circuit) → (care : Option ℕ) → Result Circuit CircuitEnd
miter_within first second care =
    let differences = miter first second care in if nat_lt MAX_GATES (length differences.gates) then Err TooManyGates else Ok differences

-- and whose output that says which points are cared for has the name in the first one that the job's text says
abbrev pub difference_by : CircuitJob → (first second : Circuit) → Result Circuit CircuitEnd
difference_by job first second = care_by (output_names first) job.care >>= miter_within first second

-- that of two circuits, of which the second one is taken over the names of the first, or how the run ends that has none
pub data Compares (job : CircuitJob) (first second : Circuit) : Result Circuit CircuitEnd → Type 0 where
  matched : (over : Circuit) → Matches first second (Ok over) → Compares job first second (difference_by job first over)
  other_inputs : Matches first second (Err unmatched.Inputs) → Compares job first second (Err OtherInputs)
  other_outputs : Matches first second (Err unmatched.Outputs) → Compares job first second (Err OtherOutputs)

-- what the bytes say to the job, or how the run ends whose bytes say no circuit; two circuits that are read are circuits
pub data IsSubject (job : CircuitJob) (bytes : List ℕ) : Result Circuit CircuitEnd → Type 0 where
  of_one : (read : Result Circuit Refusal) → compares job.mode ≡ false → IsReading bytes read
      → IsSubject job bytes (result_map_both (λ c. c) file_end read)
  of_two : (first second : Circuit) (found : Result Circuit CircuitEnd) → compares job.mode ≡ true → ReadsPair bytes (Ok (first, second))
      → IsSound first → IsSound second → Compares job first second found → IsSubject job bytes found
  no_pair : (refusal : Refusal) → compares job.mode ≡ true → ReadsPair bytes (Err (unpaired.Bad refusal))
      → IsSubject job bytes (Err (file_end refusal))
  one_alone : compares job.mode ≡ true → ReadsPair bytes (Err unpaired.Alone) → IsSubject job bytes (Err Alone)
