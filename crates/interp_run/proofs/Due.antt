-- Words ask for one job at most, and exactly one thing is due for a job and bytes that have a file. How a run ends, from what its
-- steps found, and what its status says then.
use Rattle.cert_check.specs.declared.checking.TheConstants.{MOST_INPUTS}
use Rattle.std.proofs.Common.{◌≡◌, ◌≢◌, ◌∙◌, ap, ℕ, ◌+◌, ◌<◌, ◌≤◌, ◌⊎◌, inl, inr, ⊎_elim, Bool, true, false, List, [], ◌∷◌, take}
use Rattle.std.proofs.Common.{take_all, drop, get_or, codes, Option, Some, refl, sym, subst, arith}
use Rattle.std.specs.Prelude.{◌↔◌, Ok, Err, Result, IfErr}
use Rattle.std.specs.Result.{IsErrAnd}
use Rattle.std.proofs.lemmas.Bool.{cases_Bool, le-ltb, lt-ltb}
use Rattle.std.proofs.lemmas.List.{same_lists}
use Rattle.std.proofs.lemmas.Option.{slice_get-get_or}
use Rattle.std.proofs.lemmas.Bool.Decides.{nat_tests}
use Rattle.lattice.specs.Words.{IsConsistent, care_zeros, care_ones, care_set, is_basis}
use Rattle.lattice.specs.declared.kind.Mode.{Mode}
use Rattle.lattice.specs.declared.kind.Mode.TheVariants.{Anf, Basis, Check, Gen}
use Rattle.lattice.proofs.Polynomials.{IsLeast-unique, IsReducedBasis-unique}
use Rattle.pla_reader.specs.Orders.{IsOrder, arranged, order_named}
use Rattle.pla_reader.specs.PrintedNames.{input_names, output_names}
use Rattle.pla_reader.specs.Reading.{Description, bytes_taken, description, reading_of}
use Rattle.pla_reader.specs.declared.order.OrderRefusal.{OrderRefusal}
use Rattle.pla_reader.specs.declared.order.OrderRefusal.TheVariants as disordered
use Rattle.pla_reader.specs.declared.pla.Pla.{Pla}
use Rattle.pla_reader.specs.declared.refusal.Refusal.{Refusal}
use Rattle.pla_reader.proofs.ArrangedInputs.{count_printed, orders_by_test}
use Rattle.anf_printer.specs.Text.{Answer}
use Rattle.cube_sets.proofs.OneClash.{Found, none_of_consistent, one_least}
use Rattle.cert_check.specs.Faults.{verdict_on}
use Rattle.cert_check.specs.Reading.{answer_reading, GivesAnswer}
use Rattle.cert_check.specs.Right.{IsRight}
use Rattle.cert_check.specs.declared.answer.GivenOutput.{GivenOutput}
use Rattle.pla_reader.specs.declared.refusal.TextRefusal.{TextRefusal}
use Rattle.cert_check.specs.declared.refusal.AnswerWhy.{AnswerWhy}
use Rattle.cert_check.specs.declared.refusal.Verdict.{Verdict}
use Rattle.cert_check.specs.declared.refusal.Verdict.TheVariants.{Yes}
use Rattle.cert_check.proofs.Verdicts.{answer_fits, yes_where_right}
use Rattle.cli_words.specs.CommandLine.{mode_name}
use Rattle.cli_words.specs.declared.job.Job.{Job}
use Rattle.watch.specs.Notes.{WatcherState, left_after_all}
use Rattle.watch.specs.declared.note.Note.{Note}
use Rattle.watch.proofs.LeftAfter.{left_after_all-nil}
use Rattle.program.specs.Descriptions.{IsContradiction}
use Rattle.program.specs.Duties.{IsDueFor, IsLawful, IsOwed, paged, silent, too_long, unread, within}
use Rattle.program.specs.Outcomes.{HasText, status_of}
use Rattle.program.specs.Runs.{Ends, EndsWithout, Ran, answered, as_due, cut_off, due_without, no_job, no_memory, out_of_memory}
use Rattle.program.specs.Runs.{read_fault}
use Rattle.program.specs.declared.outcome.Outcome.{Outcome}
use Rattle.program.specs.declared.outcome.Outcome.TheVariants as ends
use Rattle.program.proofs.Endings.{clash_ends, ends_as}
use Rattle.lattice.proofs.Polynomials.{err_is, ok_is}
use Rattle.interp_run.specs.Answers.{AreAnswers, IsAnswerOf, notes_from}
use Rattle.interp_run.specs.Due.{InterpDue, IsDue, IsDueChecking, IsDueSolving, IsSolving, checking, contradicted, contradiction}
use Rattle.interp_run.specs.Due.{contradiction_behind, file_of, first_passed, given_of, has_answers, in_order, is_gen, judged, least_jobs}
use Rattle.interp_run.specs.Due.{no_answer, no_file, solving, verdict}
use Rattle.interp_run.specs.Duty.{HasJobs, IsAsked, interp_duty}
use Rattle.interp_run.specs.Ends.{end_way}
use Rattle.interp_run.specs.Parts.{disordered_outcome, jobs_for, refused_outcome}
use Rattle.interp_run.specs.declared.ends.OwnEnd.{OwnEnd}
use Rattle.interp_run.specs.declared.ends.OwnEnd.TheVariants as owns
use Rattle.interp_run.proofs.SolvedAnswers.{answers_are}
use Rattle.interp_run.proofs.Written.{told}

-- ==== the one job that words ask for

same_mode : (m k : Mode) → mode_name m ≡ mode_name k → m ≡ k
same_mode m k e = grind arith

pub same_job : (words : List (List ℕ)) (a b : Job) → IsAsked words a → IsAsked words b → a ≡ b
same_job words a b x y =
    let mode = same_mode a.mode b.mode (cc (x.1.mode, y.1.mode)) in
    let workers : a.workers ≡ b.workers = cc (x.1.workers, y.1.workers) in let nodes : a.nodes ≡ b.nodes = cc (x.1.nodes, y.1.nodes) in
    let terms : a.terms ≡ b.terms = cc (x.1.terms, y.1.terms) in let seed : a.seed ≡ b.seed = cc (x.1.seed, y.1.seed) in
    let order : a.order ≡ b.order = sym x.1.order ∙ y.1.order in
    λ i. record { mode = mode i; workers = workers i; nodes = nodes i; terms = terms i; seed = seed i; order = order i }

-- a mode solves or checks
pub mode_cases : (m : Mode) → IsSolving m ⊎ (m ≡ Check)
mode_cases m = grind arith

pub solves_without_gen : (m : Mode) → (m ≡ Anf) ⊎ (m ≡ Basis) → IsSolving m × (is_gen m ≡ false)
solves_without_gen m mode = grind arith

-- ==== what is due is no fault of the run, and has texts and notes only where it has an answer

-- whether bytes and words alone can bring a run to this end
abbrev pub is_owed : Outcome OwnEnd → Bool
is_owed ends.Usage = false
is_owed ends.ReadFault = false
is_owed ends.WriteFault = false
is_owed _ = true

-- notes there are only where an answer was written whole, in modes anf and basis
abbrev pub Shape : Mode → InterpDue → Type 0
Shape mode due = (is_owed due.outcome ≡ true) × (HasText end_way due.outcome ⊎ (due ≡ silent due.outcome))
    × ((due.outcome ≡ ends.Done) ⊎ (due.notes ≡ [])) × ((mode ≡ Check) ⊎ (is_gen mode ≡ true) → due.notes ≡ [])

file_owed : (job : Job) (bytes : List ℕ) (o : Outcome OwnEnd) → file_of job bytes ≡ Err o → is_owed o ≡ true
file_owed job bytes o e = grind arith

given_owed : (d : Description) (text : List ℕ) (o : Outcome OwnEnd) → given_of d text ≡ Err o → is_owed o ≡ true
given_owed d text o e = grind arith

passed_shape : (job : Job) (d : Description) (answers : List Answer) → IsSolving job.mode → Shape job.mode (first_passed job d answers)
passed_shape job d answers mode = grind arith

judged_shape : (mode : Mode) (v : Verdict) → Shape mode (judged v)
judged_shape mode v = grind arith

module _ (job : Job) (bytes : List ℕ) where
  solving_shape : (d : Description) → IsSolving job.mode → {due : InterpDue} → IsDueSolving job d due → Shape job.mode due
  solving_shape d mode is = grind (arith, passed_shape)

  checking_shape : (d : Description) (text : List ℕ) {due : InterpDue} → IsDueChecking d text due → Shape job.mode due
  checking_shape d text is = grind (arith, given_owed, judged_shape)

  shape : {due : InterpDue} → IsDue job bytes due → Shape job.mode due
  shape is = grind (arith, file_owed, solving_shape, checking_shape)

-- for all bytes
shape_for : (job : Job) {bytes : List ℕ} {due : InterpDue} → IsDueFor interp_duty job bytes due → Shape job.mode due
shape_for job (unread due none is) = shape job [] is
shape_for job (too_long reads long) = (refl, inr refl, inr refl, λ mode. refl)
shape_for job {bytes = bytes} (within due reads few is) = shape job bytes is

-- ==== only one thing is due for a job and bytes

same_output : (d : Description) (mode : Mode) (output : ℕ) (a b : Answer) → IsAnswerOf d mode output a → IsAnswerOf d mode output b → a ≡ b
same_output d mode output a b x y =
    let p = IsLeast-unique d.inputs (care_zeros d.inputs d.kind d.rows output) (care_ones d.inputs d.kind d.rows output) a.polynomial
    b.polynomial x.least y.least in
    let q : a.basis ≡ b.basis = elim (cases_Bool (is_basis mode)) [
      | inl is ↦ IsReducedBasis-unique d.inputs (care_set d.inputs d.kind d.rows output) a.basis b.basis (x.basis is) (y.basis is)
      | inr is ↦ x.bare is ∙ sym (y.bare is)
    ] in
    λ i. record { polynomial = p i; basis = q i }

same_answers : (d : Description) (mode : Mode) (xs ys : List Answer) → AreAnswers d mode xs → AreAnswers d mode ys → xs ≡ ys
same_answers d mode xs ys a b = same_lists xs ys (a.count ∙ sym b.count) (λ k e within.
    same_output d mode (k + 1) (get_or xs k e) (get_or ys k e) (a.each k (get_or xs k e) (slice_get-get_or xs k e within))
    (b.each k (get_or ys k e) (slice_get-get_or ys k e (omega (arith, a.count, b.count)))))

module _ (job : Job) (d : Description) where
  same_solving : {a b : InterpDue} → IsDueSolving job d a → IsDueSolving job d b → a ≡ b
  same_solving (contradiction c x) (contradiction e y) = ap contradicted (one_least _ c e x y)
  same_solving (contradiction c x) (has_answers answers y) = absurd (none_of_consistent d.inputs d.outputs d.rows y.consistent c x.clash)
  same_solving (has_answers answers x) (contradiction c y) = absurd (none_of_consistent d.inputs d.outputs d.rows x.consistent c y.clash)
  same_solving (has_answers xs x) (has_answers ys y) = ap (first_passed job d) (same_answers d job.mode xs ys x y)

  same_checking : (text : List ℕ) {a b : InterpDue} → IsDueChecking d text a → IsDueChecking d text b → a ≡ b
  same_checking text (no_answer o x) (no_answer u y) = ap silent (err_is (given_of d text) x y)
  same_checking text (no_answer o x) (contradiction_behind answer c y least) = cc
  same_checking text (no_answer o x) (verdict answer y ok) = cc
  same_checking text (contradiction_behind answer c x least) (no_answer u y) = cc
  same_checking text (verdict answer x ok) (no_answer u y) = cc
  same_checking text (contradiction_behind answer c x least) (contradiction_behind other f y more) =
      ap contradicted (one_least _ c f least more)
  same_checking text (contradiction_behind answer c x least) (verdict other y ok) =
      absurd (none_of_consistent d.inputs d.outputs d.rows ok c least.clash)
  same_checking text (verdict answer x ok) (contradiction_behind other c y least) =
      absurd (none_of_consistent d.inputs d.outputs d.rows ok c least.clash)
  same_checking text (verdict answer x ok) (verdict other y more) =
      ap (λ (answer : List GivenOutput). judged (verdict_on d answer)) (ok_is (given_of d text) x y)

pub same_due : {job : Job} {bytes : List ℕ} {a b : InterpDue} → IsDue job bytes a → IsDue job bytes b → a ≡ b
same_due {job = job} {bytes = bytes} (no_file o x) (no_file u y) = ap silent (err_is (file_of job bytes) x y)
same_due (no_file o x) (solving d due y mode is) = cc
same_due (no_file o x) (checking d due y mode is) = cc
same_due (solving d due x mode is) (no_file o y) = cc
same_due (checking d due x mode is) (no_file o y) = cc
same_due (solving d due x mode is) (checking e other y checks so) = absurd (subst IsSolving checks mode)
same_due (checking d due x checks is) (solving e other y mode so) = absurd (subst IsSolving checks mode)
same_due {job = job} {bytes = bytes} (solving d due x mode is) (solving e other y again so) =
    same_solving job e (subst (λ (g : Description). IsDueSolving job g due) (ok_is (file_of job bytes) x y) is) so
same_due {job = job} {bytes = bytes} (checking d due x mode is) (checking e other y again so) = same_checking job e _
    (subst (λ (f : Description). IsDueChecking f (drop (bytes_taken bytes) bytes) due) (ok_is (file_of job bytes) x y) is) so

-- ==== something is due for each job on a file, and its verdict is yes exactly where the answer is right

some_checking : (p : Pla) (text : List ℕ) (r : Result (List GivenOutput) (Outcome OwnEnd)) → given_of (description p) text ≡ r → Found p
    → (due : InterpDue) × IsDueChecking (description p) text due
some_checking p text (Err o) e found = (silent o, no_answer o e)
some_checking p text (Ok answer) e (inl ok) = (judged (verdict_on (description p) answer), verdict answer e ok)
some_checking p text (Ok answer) e (inr h) = (contradicted h.0, contradiction_behind answer h.0 e h.1)

pub some_due : (p : Pla) (job : Job) (bytes : List ℕ) → Found p → IsSolving job.mode ⊎ (job.mode ≡ Check)
    → file_of job bytes ≡ Ok (description p) → (due : InterpDue) × IsDue job bytes due
some_due p job bytes (inl ok) (inl mode) file =
    (_, solving (description p) _ file mode (has_answers _ (answers_are (description p) job.mode ok)))
some_due p job bytes (inr h) (inl mode) file = (_, solving (description p) _ file mode (contradiction h.0 h.1))
some_due p job bytes found (inr checks) file = let some = some_checking p (drop (bytes_taken bytes) bytes) _ refl found in
    (some.0, checking (description p) some.0 file checks some.1)

pub yes_right : (p : Pla) (text : List ℕ) (answer : List GivenOutput) → answer_reading (description p) text ≡ Ok answer
    → (verdict_on (description p) answer ≡ Yes) ↔ IsRight (description p) answer
yes_right p text answer read =
    yes_where_right (description p) answer
    (answer_fits (input_names p) (output_names p) (description p) text (Ok answer)
    (count_printed (codes "x") p.inputs p.in_names (input_names p) (input_names p) p.fits.in_count refl refl)
    (count_printed (codes "f") p.outputs p.out_names (output_names p) (output_names p) p.fits.out_count refl refl) read)

-- ==== the program is lawful

pub interp_lawful : IsLawful interp_duty
interp_lawful = record {
  apart = λ words job refused asked. refused asked.0;
  one_job = same_job;
  one_due = λ job bytes a b x y. same_due x y;
  owed = λ job bytes due is. owed_by (shape job bytes is);
  own = λ e. grind arith;
}
  where
    owed_by : {mode : Mode} {due : InterpDue} → Shape mode due → IsOwed interp_duty due
    owed_by {due = due} has = record {
      usage = λ e. let bad = no e in cc;
      read = λ e. let bad = no e in cc;
      write = λ e. let bad = no e in cc;
      answer = has.1;
    }
      where
        no : {o : Outcome OwnEnd} → due.outcome ≡ o → is_owed o ≡ true
        no e = sym (ap is_owed e) ∙ has.0

-- ==== the file of a run and the answer that is judged, from what was read of its bytes

module _ (job : Job) (reads : is_gen job.mode ≡ false) (bytes : List ℕ) where
  pub file_read : (r : Result Description Refusal) {file : Result Description (Outcome OwnEnd)} → reading_of bytes ≡ r
      → in_order job.order r ≡ file → file_of job bytes ≡ file
  file_read r read ordered = rw (reads, read) ordered

  -- ends of a run without a file
  pub text_due : (refusal : Refusal) → reading_of bytes ≡ Err refusal → IsDue job bytes (silent (ends.Text refusal.line refusal.why))
  text_due refusal is = no_file _ (file_read (Err refusal) is refl)

  pub disordered_ends : (d : Description) → reading_of bytes ≡ Ok d → {o : Outcome OwnEnd}
      → (in_order job.order (Ok d) ≡ Err o) ⊎ (o ≡ ends.Memory) → EndsWithout (IsDue job bytes) o
  disordered_ends d is bad = grind (arith, due_without, no_file, file_read, no_memory)

-- the description by the order that a text asks for
module _ (p : Pla) (text : List ℕ) (asked : Option (List ℕ)) (is : asked ≡ Some text) where
  abbrev named : List ℕ
  named = order_named (input_names p) text

  pub by_order : (q : Pla) (order : List ℕ) → order ≡ named → IsOrder p.inputs named → description q ≡ arranged (description p) order
      → in_order asked (Ok (description p)) ≡ Ok (description q)
  by_order q order same good made = rw (is, (orders_by_test p.inputs named).1 good, made, same)

  pub by_no_order : (refusal : OrderRefusal) → (refusal ≡ disordered.Bad → IsOrder p.inputs named → ⊥)
      → (in_order asked (Ok (description p)) ≡ Err (disordered_outcome refusal)) ⊎ (disordered_outcome refusal ≡ ends.Memory)
  by_no_order refusal none = grind (arith, orders_by_test)

-- ==== ends without an answer, from what the steps of a run found

module _ {job : Job} {bytes : List ℕ} {d : Description} (file : file_of job bytes ≡ Ok d) where
  pub contradiction_ends : IsSolving job.mode → {o : Outcome OwnEnd} → IsContradiction d o → EndsWithout (IsDue job bytes) o
  contradiction_ends mode = clash_ends d (λ c least. solving d (contradicted c) file mode (contradiction c least))

  pub unsolved_ends : IsSolving job.mode → {o : Outcome OwnEnd} → EndsWithout (IsDueSolving job d) o → EndsWithout (IsDue job bytes) o
  unsolved_ends mode = ends_as (λ due is. solving d due file mode is)

  -- in mode check, with the text behind the description
  module _ (checks : job.mode ≡ Check) {text : List ℕ} (is : text ≡ drop (bytes_taken bytes) bytes) where
    behind : {due : InterpDue} → IsDueChecking d text due → IsDue job bytes due
    behind {due = due} h = checking d due file checks (subst (λ (t : List ℕ). IsDueChecking d t due) is h)

    pub wide_ends : MOST_INPUTS < d.inputs → EndsWithout (IsDue job bytes) (ends.Own owns.TooWide)
    wide_ends wide = due_without _ (behind (no_answer (ends.Own owns.TooWide) (rw (lt-ltb MOST_INPUTS d.inputs wide))))

    pub refused_ends : d.inputs ≤ MOST_INPUTS → (refusal : TextRefusal AnswerWhy) → GivesAnswer (Err refusal) (answer_reading d text)
        → EndsWithout (IsDue job bytes) (refused_outcome refusal)
    refused_ends few refusal e = grind (arith, nat_tests, due_without, behind, no_answer, no_memory)

    module _ (few : d.inputs ≤ MOST_INPUTS) {answer : List GivenOutput} (read : answer_reading d text ≡ Ok answer) where
      pub clash_behind : {o : Outcome OwnEnd} → IsContradiction d o → EndsWithout (IsDue job bytes) o
      clash_behind = clash_ends d
          (λ c least. behind (contradiction_behind answer c (rw (le-ltb MOST_INPUTS d.inputs few, read)) least))

      pub verdict_due : (v : Verdict) → IsConsistent d.inputs d.outputs d.rows → v ≡ verdict_on d answer → IsDue job bytes (judged v)
      verdict_due v ok first = rw first (behind (verdict answer (rw (le-ltb MOST_INPUTS d.inputs few, read)) ok))

-- ==== how a run ends, from what its steps found

pub if_err : {T E : Type 0} (r : Result T E) (x : E) (P : E → Type 0) → IsErrAnd r (λ e. e ≡ x) → P x → IfErr r P
if_err r x P same p = grind arith

-- the verdict that is due with one page
pub judged_is : (v : Verdict) (text : List ℕ) → (judged v).pages ≡ text ∷ []
    → (judged v ≡ paged (judged v).outcome text) × HasText end_way (judged v).outcome
judged_is v text is = grind arith

-- it is no failed write, and so is no end without an answer
pub judged_fault : (v : Verdict) → (judged v).outcome ≢ ends.WriteFault
judged_fault v = grind arith

pub without_fault : {job : Job} {bytes : List ℕ} {o : Outcome OwnEnd} → EndsWithout (IsDue job bytes) o → o ≢ ends.WriteFault
without_fault {job = job} {bytes = bytes} (due_without o is) = (interp_lawful.owed job bytes (silent o) is).write
without_fault no_memory = λ e. cc

-- ==== who is told of a run

untold : (before after : List WatcherState) (notes : List Note) → notes ≡ [] → after ≡ left_after_all notes before → after ≡ before
untold before after notes none left = left ∙ (ap (λ (ns : List Note). left_after_all ns before) none ∙ left_after_all-nil before)

no_notes : (words : List (List ℕ)) {bytes : List ℕ} (job other : Job) {due : InterpDue} → IsAsked words other
    → IsDueFor interp_duty other bytes due → IsAsked words job → (job.mode ≡ Check) ⊎ (job.mode ≡ Gen) → due.notes ≡ []
no_notes words job other again is asked mode = (shape_for other is).3 (⊎_elim
    (λ e. inl (ap (λ (j : Job). j.mode) (same_job words other job again asked) ∙ e))
    (λ e. inr (ap (λ (j : Job). is_gen j.mode) (same_job words other job again asked) ∙ ap is_gen e)) mode)

module _ {earned : Job → InterpDue → Type 0} {words : List (List ℕ)} {bytes : List ℕ} {old new : Option (List ℕ)}
    {before after : List WatcherState} where
  -- nobody without the status of an answer, which it may be that a write cut off
  pub nobody_told : {o : Outcome OwnEnd} → Ends interp_duty earned words bytes old new before after o → status_of end_way o ≢ 0
      → status_of end_way o ≢ 9 → after ≡ before
  nobody_told (no_job o none keeps left) zero nine = left
  nobody_told (read_fault job asked reads keeps left) zero nine = left
  nobody_told (answered job o asked (as_due due is gained left earns)) zero nine =
      ⊎_elim (λ done. absurd (zero (ap (status_of end_way) done))) (λ none. untold before after due.notes none left) (shape_for job is).2
  nobody_told (answered job o asked (out_of_memory keeps left)) zero nine = left
  nobody_told (answered job o asked (cut_off due is text front first earns)) zero nine = absurd (nine refl)

  -- and nobody who asks for a mode without outputs
  pub nobody_in : (other : Job) → IsAsked words other → (other.mode ≡ Check) ⊎ (other.mode ≡ Gen) → {o : Outcome OwnEnd}
      → Ends interp_duty earned words bytes old new before after o → after ≡ before
  nobody_in other again mode (no_job o none keeps left) = left
  nobody_in other again mode (read_fault job asked reads keeps left) = left
  nobody_in other again mode (answered job o asked (as_due due is gained left earns)) =
      untold before after due.notes (no_notes words other job asked is again mode) left
  nobody_in other again mode (answered job o asked (out_of_memory keeps left)) = left
  nobody_in other again mode (answered job o asked (cut_off due is text front first earns)) =
      untold before after (take first.count due.notes)
      (ap (take first.count) (no_notes words other job asked is again mode) ∙ take_all first.count [] (omega arith)) first.left

-- ==== how many jobs found the answers, by what the watchers are told of them

pub told_jobs : (mode : Mode) (answers : List Answer) → is_gen mode ≡ false → jobs_for mode answers ≡ least_jobs mode (notes_from 1 answers)
told_jobs mode answers other = rw (other, (told 1 answers).0, (told 1 answers).1) refl

-- what is due has no notes where a run ends without an answer
pub silent_jobs : {count : ℕ} {job : Job} {o : Outcome OwnEnd} → is_gen job.mode ≡ false → HasJobs count job (silent o)
silent_jobs {count = count} {job = job} other = record { enough = λ solves. rw other (grind arith) }

-- in mode check none are asked, and in mode gen two find the summary
pub checked_jobs : {count : ℕ} {job : Job} {due : InterpDue} → job.mode ≡ Check → HasJobs count job due
checked_jobs checks = record { enough = λ solves. absurd (solves checks) }

pub summary_jobs : {count : ℕ} {job : Job} {due : InterpDue} → is_gen job.mode ≡ true → 2 ≤ count → HasJobs count job due
summary_jobs gen enough = record { enough = λ solves. rw gen enough }

-- the count of the pool that was handed in is that of the run's
pub ran_counts : {words : List (List ℕ)} {left old new : Option (List ℕ)} {before after : List WatcherState} {o : Outcome OwnEnd}
    (n m : ℕ) → n ≡ m → Ran interp_duty (HasJobs n) words left old new before after o
    → Ran interp_duty (HasJobs m) words left old new before after o
ran_counts {words = words} {left = left} {old = old} {new = new} {before = before} {after = after} {o = o} n m same =
    subst (λ (k : ℕ). Ran interp_duty (HasJobs k) words left old new before after o) same

-- ==== the number of workers

solving_free : (job : Job) (workers : ℕ) (d : Description) (due : InterpDue) → IsDueSolving job d due
    → IsDueSolving (record job { workers = workers }) d due
solving_free job workers d _ (contradiction c least) = contradiction c least
solving_free job workers d _ (has_answers answers are) = has_answers answers are

-- what is due is so for each number of workers
free_of_workers : (job : Job) (workers : ℕ) (bytes : List ℕ) (due : InterpDue) → IsDue job bytes due
    → IsDue (record job { workers = workers }) bytes due
free_of_workers job workers bytes _ (no_file o file) = no_file o file
free_of_workers job workers bytes _ (solving d due file mode is) = solving d due file mode (solving_free job workers d due is)
free_of_workers job workers bytes _ (checking d due file mode is) = checking d due file mode is

pub free_for : (job : Job) (workers : ℕ) (bytes : List ℕ) (due : InterpDue) → IsDueFor interp_duty job bytes due
    → IsDueFor interp_duty (record job { workers = workers }) bytes due
free_for job workers bytes _ (unread due none is) = unread due none (free_of_workers job workers [] due is)
free_for job workers bytes _ (too_long reads long) = too_long reads long
free_for job workers bytes _ (within due reads few is) = within due reads few (free_of_workers job workers bytes due is)
