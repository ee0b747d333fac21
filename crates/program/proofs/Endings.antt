-- One thing at most is due for a job and all bytes; how a run ends, from what its steps found; and what its status says then.
use Rattle.std.proofs.Common.{◌≡◌, ◌≢◌, ◌⊎◌, ◌∙◌, ℕ, ◌+◌, ◌<◌, ◌≤◌, List, [], length, take, ap, refl, sym, subst, inl, inr, ⊎_elim, arith}
use Rattle.std.proofs.Common.{true, false, Option, Some, ◌∷◌, append-nil}
use Rattle.std.specs.List.{concat}
use Rattle.std.specs.Io.KnownBytes.{Appends, Keeps}
use Rattle.watch.specs.Notes.{WatcherState, left_after_all}
use Rattle.watch.proofs.LeftAfter.{left_after_all-nil}
use Rattle.std.specs.Prelude.{Err}
use Rattle.outside.specs.Causes.{GainsLess}
use Rattle.pla_reader.specs.Reading.{Description, GivesReading, reading_of}
use Rattle.pla_reader.specs.declared.refusal.ReadRefusal.{ReadRefusal}
use Rattle.pla_reader.specs.declared.refusal.ReadRefusal.TheVariants.{Bad, Memory}
use Rattle.pla_reader.specs.declared.refusal.Refusal.{Refusal}
use Rattle.cube_sets.specs.Clashes.{IsClash, IsLeastOf}
use Rattle.cube_sets.specs.declared.clash.Clash.{Clash}
use Rattle.program.specs.Descriptions.{IsContradiction, unread_outcome}
use Rattle.program.proofs.Written.{stopped_at}
use Rattle.program.specs.Outcomes.{HasText, Way, status_of}
use Rattle.program.specs.Duties.{Due, Duty, IsDueFor, IsLawful, IsOwed, OneIsDue, done, paged, silent, too_long, unread, within}
use Rattle.program.specs.Runs.{Answers, Ends, EndsWithout, Ran, answered, as_due, cut_off, due_without, no_job}
use Rattle.program.specs.Runs.{no_memory, no_memory_for_words}
use Rattle.program.specs.Runs.{out_of_memory, read_fault, refused}
use Rattle.program.specs.declared.outcome.Outcome.{Outcome}
use Rattle.program.specs.declared.outcome.Outcome.TheVariants as ends
use Rattle.program.proofs.Streams.{appends_nothing, bytes_behind, bytes_of_source, keeps_nothing, keeps_same, read_all, read_over}

-- ---- answers by what is due

-- an answer on what is due by one relation is one on what is due by another that follows from it
pub answers_as : {E : Type 0} {own : E → Way} {P Q earned : Due E → Type 0} {old new : Option (List ℕ)} {before after : List WatcherState}
    {o : Outcome E} → ((due : Due E) → P due → Q due) → Answers own P earned old new before after o
    → Answers own Q earned old new before after o
answers_as f (as_due due is gained left earns) = as_due due (f due is) gained left earns
answers_as f (out_of_memory keeps same) = out_of_memory keeps same
answers_as f (cut_off due is text front told earns) = cut_off due (f due is) text front told earns

-- an end without an answer, from what it is due by
pub ends_as : {E : Type 0} {P Q : Due E → Type 0} {o : Outcome E} → ((due : Due E) → P due → Q due) → EndsWithout P o → EndsWithout Q o
ends_as f (due_without o is) = due_without o (f (silent o) is)
ends_as f no_memory = no_memory

-- the refusal of a description
pub unread_ends : {E : Type 0} {is_due : Due E → Type 0} (bytes : List ℕ)
    → ((refusal : Refusal) → reading_of bytes ≡ Err refusal → is_due (silent (ends.Text refusal.line refusal.why)))
    → (refusal : ReadRefusal) → GivesReading (Err refusal) (reading_of bytes) → EndsWithout is_due (unread_outcome refusal)
unread_ends bytes due (Bad refusal) is = due_without _ (due refusal is)
unread_ends bytes due Memory is = no_memory

-- rows that contradict each other
pub clash_ends : {E : Type 0} {is_due : Due E → Type 0} (d : Description)
    → ((c : Clash) → IsLeastOf (IsClash d.inputs d.outputs d.rows d.rows) c → is_due (silent (ends.Contradiction c)))
    → {o : Outcome E} → IsContradiction d o → EndsWithout is_due o
clash_ends d due is = rw is.outcome_is (due_without _ (due is.clash is.least))

module _ {E : Type 0} {own : E → Way} {is_due earned : Due E → Type 0} {states : List WatcherState} where
  -- without an answer
  pub answers_without : {o : Outcome E} (held : Option (List ℕ)) → (HasText own o → earned (silent o)) → EndsWithout is_due o
      → Answers own is_due earned held held states states o
  answers_without held earns (due_without o due) = as_due (silent o) due (appends_nothing held) (sym (left_after_all-nil states)) earns
  answers_without held earns no_memory = out_of_memory (keeps_same held) refl

  module _ (o : Outcome E) (text : List ℕ) {old new : Option (List ℕ)} (due : is_due (paged o text)) where
    -- with a text, which was written whole
    pub answers_paged : Appends old new text → (HasText own o → earned (paged o text)) → Answers own is_due earned old new states states o
    answers_paged gained earns = as_due (paged o text) due (rw append-nil gained) (sym (left_after_all-nil states)) earns

    -- or in part
    pub answers_within : HasText own o → GainsLess old new text → earned (paged o text)
        → Answers own is_due earned old new states states ends.WriteFault
    answers_within has less earns = cut_off (paged o text) due has (rw append-nil less)
        (stopped_at old old new (text ∷ []) [] 0 text states states (omega arith) refl (appends_nothing old) less
        (sym (left_after_all-nil states))) earns

  -- with a text, by how the write ended
  pub answers_done : {o : Outcome E} {old new : Option (List ℕ)} (text : List ℕ) → is_due (done text)
      → (o ≡ ends.Done) ⊎ (o ≡ ends.WriteFault)
      → (o ≡ ends.Done → Appends old new text) → (o ≡ ends.WriteFault → GainsLess old new text) → earned (done text)
      → Answers own is_due earned old new states states o
  answers_done text due (inl is) whole less earns = rw is (answers_paged ends.Done text due (whole is) (λ text. earns))
  answers_done text due (inr is) whole less earns = rw is (answers_within ends.Done text due (omega arith) (less is) earns)

-- what is due for a job that reads nothing does not depend on the bytes
pub due_for_any : {Job E : Type 0} (duty : Duty Job E) {job : Job} {bytes : List ℕ} (other : List ℕ) {due : Due E}
    → duty.reads job ≡ false → IsDueFor duty job bytes due → IsDueFor duty job other due
due_for_any duty other none (unread due nothing is) = unread due none is
due_for_any duty other none (too_long reads long) = let bad = sym none ∙ reads in cc
due_for_any duty other none (within due reads few is) = let bad = sym none ∙ reads in cc

module _ {Job E : Type 0} (duty : Duty Job E) (lawful : IsLawful duty) where
  -- one thing at most is due for a job and all bytes
  pub one_is_due : OneIsDue duty
  one_is_due job bytes a b (unread due none is) (unread other nothing so) = lawful.one_due job [] a b is so
  one_is_due job bytes a b (unread due none is) (too_long reads long) = let bad = sym none ∙ reads in cc
  one_is_due job bytes a b (unread due none is) (within other reads few so) = let bad = sym none ∙ reads in cc
  one_is_due job bytes a b (too_long reads long) (unread due none is) = let bad = sym none ∙ reads in cc
  one_is_due job bytes a b (too_long reads long) (too_long again so) = refl
  one_is_due job bytes a b (too_long reads long) (within other again few so) = absurd (omega (arith, long, few))
  one_is_due job bytes a b (within due reads few is) (unread other none so) = let bad = sym none ∙ reads in cc
  one_is_due job bytes a b (within due reads few is) (too_long again long) = absurd (omega (arith, long, few))
  one_is_due job bytes a b (within due reads few is) (within other again more so) = lawful.one_due job bytes a b is so

  owed_for : {job : Job} {bytes : List ℕ} {due : Due E} → IsDueFor duty job bytes due → IsOwed duty due
  owed_for {job = job} (unread due none is) = lawful.owed job [] due is
  owed_for (too_long reads long) = record { usage = λ e. cc; read = λ e. cc; write = λ e. cc; answer = inr refl }
  owed_for {job = job} {bytes = bytes} (within due reads few is) = lawful.owed job bytes due is

  -- the statuses 2 and 9 are those of one outcome each
  two_usage : (o : Outcome E) → status_of duty.way o ≡ 2 → o ≡ ends.Usage
  two_usage (ends.Own end) e = absurd (grind (arith, lawful.own end, e))
  two_usage ends.Usage e = refl
  two_usage _ e = absurd (omega (arith, e))

  nine_write : (o : Outcome E) → status_of duty.way o ≡ 9 → o ≡ ends.WriteFault
  nine_write (ends.Own end) e = absurd (grind (arith, lawful.own end, e))
  nine_write ends.WriteFault e = refl
  nine_write _ e = absurd (omega (arith, e))

-- ---- what was read of the source

module _ {Job E : Type 0} (duty : Duty Job E) {earned : Due E → Type 0} {old new : Option (List ℕ)} {before after : List WatcherState}
    {job : Job} {bytes read : List ℕ} (reads : duty.reads job ≡ true) (is : read ≡ take (duty.limit + 1) bytes) where
  -- an answer on what was read is one on all bytes, where they are within the limit
  pub answered_read : {o : Outcome E} → length read ≤ duty.limit → Answers duty.way (duty.IsDue job read) earned old new before after o
      → Answers duty.way (IsDueFor duty job bytes) earned old new before after o
  answered_read few = let whole = read_all duty.limit bytes read is few in
      answers_as (λ due h. within due reads (subst (λ (bs : List ℕ). length bs ≤ duty.limit) whole few)
      (subst (λ (bs : List ℕ). duty.IsDue job bs due) whole h))

-- and where they are over it, they are too many
pub too_many : {Job E : Type 0} (duty : Duty Job E) {earned : Due E → Type 0} (held : Option (List ℕ)) (states : List WatcherState)
    {job : Job} {bytes read : List ℕ} → duty.reads job ≡ true → read ≡ take (duty.limit + 1) bytes → duty.limit < length read
    → Answers duty.way (IsDueFor duty job bytes) earned held held states states (ends.TooLong duty.limit)
too_many duty held states {bytes = bytes} {read = read} reads is long =
    as_due (silent (ends.TooLong duty.limit)) (too_long reads (read_over duty.limit bytes read is long)) (appends_nothing held)
    (sym (left_after_all-nil states)) (λ text. absurd (omega (arith, text)))

-- ---- a run ends so on the bytes of its source: those that it told, or else those that it gave

module _ {Job E : Type 0} {duty : Duty Job E} {earned : Job → Due E → Type 0} {words : List (List ℕ)} {old new : Option (List ℕ)}
    {before after : List WatcherState} {o : Outcome E} where
  -- a run that ends so on each source
  pub ran_short : (left : Option (List ℕ)) → ((bytes : List ℕ) → Ends duty earned words bytes old new before after o)
      → Ran duty earned words left old new before after o
  ran_short left ended = let some = bytes_of_source left in record { bytes = some.0; told = some.1; ended = ended some.0 }

  -- a run that read its source
  pub ran_read : (left : Option (List ℕ)) (read : List ℕ) → ((xs : List ℕ) → left ≡ Some xs → read ≡ take (duty.limit + 1) xs)
      → length read ≤ duty.limit + 1
      → ((bytes : List ℕ) → read ≡ take (duty.limit + 1) bytes → Ends duty earned words bytes old new before after o)
      → Ran duty earned words left old new before after o
  ran_read left read told few ended =
      let some = bytes_behind left read (duty.limit + 1) told few in record { bytes = some.0; told = some.1; ended = ended some.0 some.2 }

-- ---- what its status says

module _ {Job E : Type 0} (duty : Duty Job E) (earned : Job → Due E → Type 0) (words : List (List ℕ)) (bytes : List ℕ)
    (old new : Option (List ℕ)) (before after : List WatcherState) where
  -- What the status of an outcome says.
  pub record Said (o : Outcome E) (status : ℕ) : Type 0 where
    pub usage : status ≡ 2 → duty.IsRefused words
    pub taken : status ≢ 2 → status ≢ 7 → ¬ duty.IsRefused words
    pub refused_so : duty.IsRefused words → ¬ duty.WordsTakeMemory → status ≡ 2
    pub nothing : status ≢ 0 → status ≢ 1 → status ≢ 9 → Keeps old new
    pub nobody : status ≢ 0 → status ≢ 1 → status ≢ 9 → after ≡ before
    pub written : (job : Job) (due : Due E) → duty.IsAsked words job → IsDueFor duty job bytes due → HasText duty.way due.outcome
        → o ≢ ends.ReadFault → o ≢ ends.WriteFault
        → (status ≡ 7) ⊎ ((status ≡ status_of duty.way due.outcome) × Appends old new (concat due.pages))
    pub earns : (job : Job) (due : Due E) → duty.IsAsked words job → IsDueFor duty job bytes due → (status ≤ 1) ⊎ (status ≡ 9)
        → earned job due

  module _ (lawful : IsLawful duty) where
    nothing_gained : {due : Due E} → due ≡ silent due.outcome → Appends old new (concat due.pages) → Keeps old new
    nothing_gained is gained = keeps_nothing old new (subst (λ (d : Due E). Appends old new (concat d.pages)) is gained)

    nobody_told : {due : Due E} → due ≡ silent due.outcome → after ≡ left_after_all due.notes before → after ≡ before
    nobody_told is left = left ∙ (ap (λ (d : Due E). left_after_all d.notes before) is ∙ left_after_all-nil before)

    -- one who asks for the job for which this is due has what is due for it
    same : {job other : Job} {due found : Due E} → duty.IsAsked words job → IsDueFor duty job bytes due → duty.IsAsked words other
        → IsDueFor duty other bytes found → (job ≡ other) × (due ≡ found)
    same {job = job} {other = other} {due = due} {found = found} asked is again so =
        let job_is = lawful.one_job words job other asked again in
        (job_is, one_is_due duty lawful other bytes due found (subst (λ (j : Job). IsDueFor duty j bytes due) job_is is) so)

    said_of : {o : Outcome E} → Ends duty earned words bytes old new before after o → Said o (status_of duty.way o)
    said_of (no_job o (refused r) keeps left) = record {
      usage = λ two. r;
      taken = λ two seven. absurd (two refl);
      refused_so = λ again few. refl;
      nothing = λ zero one nine. keeps;
      nobody = λ zero one nine. left;
      written = λ job due asked is text calm quiet. absurd (lawful.apart words job r asked);
      earns = λ job due asked is ended. absurd (lawful.apart words job r asked);
    }
    said_of (no_job o (no_memory_for_words more) keeps left) = record {
      usage = λ two. absurd (omega (arith, two));
      taken = λ two seven. absurd (seven refl);
      refused_so = λ again few. absurd (few more);
      nothing = λ zero one nine. keeps;
      nobody = λ zero one nine. left;
      written = λ job due asked is text calm quiet. inl refl;
      earns = λ job due asked is ended. absurd (grind (arith, ended));
    }
    said_of (read_fault job asked reads keeps left) = record {
      usage = λ two. absurd (omega (arith, two));
      taken = λ two seven r. lawful.apart words job r asked;
      refused_so = λ r few. absurd (lawful.apart words job r asked);
      nothing = λ zero one nine. keeps;
      nobody = λ zero one nine. left;
      written = λ other due again is text calm quiet. absurd (calm refl);
      earns = λ other due again is ended. absurd (grind (arith, ended));
    }
    said_of (answered job o asked (as_due due is gained left earns)) =
        let owed = owed_for duty lawful is in
        record {
          usage = λ two. absurd (owed.usage (two_usage duty lawful due.outcome two));
          taken = λ two seven r. lawful.apart words job r asked;
          refused_so = λ r few. absurd (lawful.apart words job r asked);
          nothing = λ zero one nine. ⊎_elim (λ text. absurd (omega (arith, text, zero, one)))
              (λ none. nothing_gained none gained) owed.answer;
          nobody = λ zero one nine. ⊎_elim (λ text. absurd (omega (arith, text, zero, one))) (λ none. nobody_told none left) owed.answer;
          written = λ other found again so text calm quiet.
              let due_is = (same asked is again so).1 in
              inr (
                ap (λ (d : Due E). status_of duty.way d.outcome) due_is,
                subst (λ (d : Due E). Appends old new (concat d.pages)) due_is gained,
              );
          earns = λ other found again so ended.
              let both = same asked is again so in
              subst (λ (j : Job). earned j found) both.0 (subst (λ (d : Due E). earned job d) both.1
              (earns (⊎_elim (λ few. few) (λ nine. absurd (owed.write (nine_write duty lawful due.outcome nine))) ended)));
        }
    said_of (answered job o asked (out_of_memory keeps left)) = record {
      usage = λ two. absurd (omega (arith, two));
      taken = λ two seven r. lawful.apart words job r asked;
      refused_so = λ r few. absurd (lawful.apart words job r asked);
      nothing = λ zero one nine. keeps;
      nobody = λ zero one nine. left;
      written = λ other due again is text calm quiet. inl refl;
      earns = λ other due again is ended. absurd (grind (arith, ended));
    }
    said_of (answered job o asked (cut_off due is text front told earns)) = record {
      usage = λ two. absurd (omega (arith, two));
      taken = λ two seven r. lawful.apart words job r asked;
      refused_so = λ r few. absurd (lawful.apart words job r asked);
      nothing = λ zero one nine. absurd (nine refl);
      nobody = λ zero one nine. absurd (nine refl);
      written = λ other found again so has calm quiet. absurd (quiet refl);
      earns = λ other found again so ended.
          let both = same asked is again so in
          subst (λ (j : Job). earned j found) both.0 (subst (λ (d : Due E). earned job d) both.1 earns);
    }

-- What it says after a run.
pub said : {Job E : Type 0} (duty : Duty Job E) (lawful : IsLawful duty) {earned : Job → Due E → Type 0} {words : List (List ℕ)}
    {bytes : List ℕ} {old new : Option (List ℕ)} {before after : List WatcherState} {o : Outcome E} {status : ℕ}
    → Ends duty earned words bytes old new before after o → status ≡ status_of duty.way o
    → Said duty earned words bytes old new before after o status
said duty lawful ended is = rw is (said_of duty _ _ _ _ _ _ _ lawful ended)

-- one who was asked does not answer how it is used
pub asked_not_usage : {Job E : Type 0} (duty : Duty Job E) (lawful : IsLawful duty) {earned : Job → Due E → Type 0} {words : List (List ℕ)}
    {bytes : List ℕ} {old new : Option (List ℕ)} {before after : List WatcherState} {o : Outcome E} {job : Job}
    → duty.IsAsked words job → Ends duty earned words bytes old new before after o → o ≢ ends.Usage
asked_not_usage duty lawful {words = words} {job = job} asked ended is =
    lawful.apart words job ((said duty lawful ended refl).usage (ap (status_of duty.way) is)) asked

-- ---- a program that has no watchers

left_alone : {Job E : Type 0} {duty : Duty Job E} {earned : Job → Due E → Type 0} {words : List (List ℕ)} {bytes : List ℕ}
    {old new : Option (List ℕ)} {after : List WatcherState} {o : Outcome E} → Ends duty earned words bytes old new [] after o → after ≡ []
left_alone (no_job o none keeps left) = left
left_alone (read_fault job asked reads keeps left) = left
left_alone (answered job o asked (as_due due is gained left earns)) = left
left_alone (answered job o asked (out_of_memory keeps left)) = left
left_alone (answered job o asked (cut_off due is text less told earns)) = told.left

-- has none after the run.
pub ran_alone : {Job E : Type 0} {duty : Duty Job E} {earned : Job → Due E → Type 0} {words : List (List ℕ)}
    {left old new : Option (List ℕ)} {after : List WatcherState} {o : Outcome E} → Ran duty earned words left old new [] after o
    → Ran duty earned words left old new [] [] o
ran_alone {duty = duty} {earned = earned} {words = words} {old = old} {new = new} {o = o} ran = record {
  bytes = ran.bytes;
  told = ran.told;
  ended = subst (λ (after : List WatcherState). Ends duty earned words ran.bytes old new [] after o) (left_alone ran.ended) ran.ended;
}
