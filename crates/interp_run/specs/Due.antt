-- What is due for a job and the bytes of a source, no more than its limit: how the run ends, what out gains, and what the watchers are
-- told.
use Rattle.std.specs.Prelude.{◌≡◌, Bool, true, false, ◌+◌, cond, sum_by, ℕ, ◌^◌, nat_lt, List, ◌++◌, length, drop, codes, decimal, Result, Ok, Err}
use Rattle.std.specs.Prelude.{if◌then◌else◌, Option, Some, None}
use Rattle.std.specs.Result.{result_map_both}
use Rattle.lattice.specs.Rows.{IsConsistent}
use Rattle.lattice.specs.WorkingLists.{is_basis}
use Rattle.lattice.specs.declared.kind.Mode.{Mode}
use Rattle.lattice.specs.declared.kind.Mode.TheVariants.{Check, Gen}
use Rattle.pla_reader.specs.Orders.{arranged, is_order, order_named}
use Rattle.pla_reader.specs.PrintedNames.{printed_names}
use Rattle.pla_reader.specs.Reading.{Description, bytes_taken, reading_of}
use Rattle.pla_reader.specs.declared.refusal.Refusal.{Refusal}
use Rattle.cube_sets.specs.Clashes.{IsClash, IsLeastOf}
use Rattle.cube_sets.specs.declared.clash.Clash.{Clash}
use Rattle.anf_printer.specs.Text.{Answer}
use Rattle.cert_check.specs.Faults.{verdict_on}
use Rattle.cert_check.specs.Reading.{answer_reading}
use Rattle.cert_check.specs.declared.answer.GivenOutput.{GivenOutput}
use Rattle.cert_check.specs.Causes.{fault_name}
use Rattle.cert_check.specs.declared.checking.TheConstants.{MOST_INPUTS}
use Rattle.cert_check.specs.declared.refusal.Verdict.{Verdict}
use Rattle.cert_check.specs.declared.refusal.Verdict.TheVariants.{Yes, No}
use Rattle.gen_pla.specs.Generated.{generated}
use Rattle.cli_words.specs.declared.job.Job.{Job}
use Rattle.watch.specs.declared.note.Note.{Note}
use Rattle.program.specs.Duties.{Due, done, paged, silent}
use Rattle.program.specs.declared.outcome.Outcome.{Outcome}
use Rattle.program.specs.declared.outcome.Outcome.TheVariants as ends
use Rattle.interp_run.specs.Answers.{AreAnswers, first_count, second_count, first_nodes, last_nodes, texts, summary, notes_from}
use Rattle.interp_run.specs.declared.ends.OwnEnd.{OwnEnd}
use Rattle.interp_run.specs.declared.ends.OwnEnd.TheVariants as owns

-- whether a mode makes its file from a seed, and whether it solves its file
abbrev pub is_gen : Mode → Bool
is_gen Gen = true
is_gen _ = false

abbrev pub IsSolving : Mode → Type 0
IsSolving Check = ⊥
IsSolving _ = Unit {0}

-- what was read, over the order that the text of an option asks for; without a text it stays as it is. A text is refused that, cut at
-- its commas, is no list of all printed names of the inputs, each once
abbrev pub in_order : Option (List ℕ) → Result Description Refusal → Result Description (Outcome OwnEnd)
in_order order (Err refusal) = Err (ends.Text refusal.line refusal.why)
in_order None (Ok d) = Ok d
in_order (Some text) (Ok d) = let order = order_named (printed_names (codes "x") d.inputs d.in_names) text in
    if is_order d.inputs order then Ok (arranged d order) else Err (ends.Own owns.Order)

-- the file that a run is about, or how the run ends that has none
abbrev pub file_of : Job → List ℕ → Result Description (Outcome OwnEnd)
file_of job bytes = if is_gen job.mode then Ok (generated job.seed) else in_order job.order (reading_of bytes)

-- the answer that is judged, or how the run ends that has none
abbrev pub given_of : Description → List ℕ → Result (List GivenOutput) (Outcome OwnEnd)
given_of d text = if nat_lt MOST_INPUTS d.inputs then Err (ends.Own owns.TooWide)
    else result_map_both (λ answer. answer) (λ refusal. ends.Own (owns.AnswerText refusal.0 refusal.1)) (answer_reading d text)

-- ---- how a run ends, the texts that out gains, and what the watchers are told of each

-- that of a run of interp
abbrev pub InterpDue : Type 0
InterpDue = Due OwnEnd

-- of one on a description with two rows that contradict each other
abbrev pub contradicted : Clash → InterpDue
contradicted c = silent (ends.Contradiction c)

-- of one that has these answers; in mode gen there is a summary of them all, and nobody is told
abbrev pub solved : Job → Description → List Answer → InterpDue
solved job d answers = if is_gen job.mode then done (summary d answers)
    else record { outcome = ends.Done; pages = texts d job.mode answers; notes = notes_from 1 answers }

-- of one that has this verdict
abbrev pub judged : Verdict → InterpDue
judged Yes = done (codes "yes\n")
judged (No line why) = paged (ends.Own (owns.No line why)) (codes "no " ++ decimal line ++ codes " " ++ fault_name why ++ codes "\n")

-- ---- what is due where nothing fails and memory suffices, a constructor for each cause, the first cause first

-- with these answers: the first limit that is passed ends the run
abbrev pub first_passed : Job → Description → List Answer → InterpDue
first_passed job d answers =
    if nat_lt (2 ^ job.nodes) (first_nodes d job.mode) then silent (ends.Exhausted (2 ^ job.nodes))
    else (if nat_lt job.terms (first_count answers) then silent (ends.Terms job.terms)
    else (if nat_lt (2 ^ job.nodes) (last_nodes d job.mode) then silent (ends.Exhausted (2 ^ job.nodes))
    else (if nat_lt job.terms (second_count answers) then silent (ends.Terms job.terms) else solved job d answers)))

-- in a mode that solves, on a description
pub data IsDueSolving (job : Job) (d : Description) : InterpDue → Type 0 where
  contradiction : (c : Clash) → IsLeastOf (IsClash d.inputs d.outputs d.rows d.rows) c → IsDueSolving job d (contradicted c)
  has_answers : (answers : List Answer) → AreAnswers d job.mode answers → IsDueSolving job d (first_passed job d answers)

-- in mode check, on a description and the text behind it
pub data IsDueChecking (d : Description) (text : List ℕ) : InterpDue → Type 0 where
  no_answer : (o : Outcome OwnEnd) → given_of d text ≡ Err o → IsDueChecking d text (silent o)
  contradiction_behind : (answer : List GivenOutput) (c : Clash) → given_of d text ≡ Ok answer
      → IsLeastOf (IsClash d.inputs d.outputs d.rows d.rows) c → IsDueChecking d text (contradicted c)
  verdict : (answer : List GivenOutput) → given_of d text ≡ Ok answer → IsConsistent d.inputs d.outputs d.rows
      → IsDueChecking d text (judged (verdict_on d answer))

-- for a job and the bytes
pub data IsDue (job : Job) (bytes : List ℕ) : InterpDue → Type 0 where
  no_file : (o : Outcome OwnEnd) → file_of job bytes ≡ Err o → IsDue job bytes (silent o)
  solving : (d : Description) (due : InterpDue) → file_of job bytes ≡ Ok d → IsSolving job.mode → IsDueSolving job d due → IsDue job bytes due
  checking : (d : Description) (due : InterpDue) → file_of job bytes ≡ Ok d → job.mode ≡ Check
      → IsDueChecking d (drop (bytes_taken bytes) bytes) due → IsDue job bytes due

-- how many jobs a pool answers before the answer is written of which the watchers are told this: the polynomials, the elements
-- and, in mode basis, the leads of each output; in mode gen the two polynomials
abbrev pub least_jobs : Mode → List Note → ℕ
least_jobs mode notes = if is_gen mode then 2
    else length notes + sum_by (λ n. n.basis) notes + cond (is_basis mode) (length notes) 0
