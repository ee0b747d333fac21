-- How a run ends, from what its steps found: exactly one thing is due for a job and bytes that are read.
use Rattle.std.proofs.Common.{◌≡◌, ◌≢◌, ◌∙◌, ◌^◌, ◌<◌, ◌≤◌, ℕ, Bool, true, false, List, [], length, map, ap, arith, refl, subst}
use Rattle.std.proofs.Common.{Option, Some, None, inl, inr, lit≤, sym}
use Rattle.std.proofs.lemmas.Bool.{le-ltb, lt-ltb}
use Rattle.std.proofs.lemmas.Bool.Decides.{nat_tests}
use Rattle.std.specs.Prelude.{Ok, Err, IfErr, IfOk, Result, if◌then◌else◌, is_some, nat_lt}
use Rattle.std.specs.List.{list_any}
use Rattle.std.specs.Option.{option_map_or}
use Rattle.aig_pairs.specs.Matching.{output_names}
use Rattle.aig_reader.specs.Circuit.{Circuit}
use Rattle.aig_reader.specs.Reading.{circuit}
use Rattle.aig_reader.specs.declared.circuit.Aig.{Aig}
use Rattle.circuit_solve.specs.Answers.{answer_nodes}
use Rattle.circuit_solve.specs.Solved.{IsSolved, Solved, first_refused}
use Rattle.circuit_solve.specs.Laws.{IsAsked}
use Rattle.circuit_solve.specs.Ones.{AreLeastOnes, one_nodes}
use Rattle.circuit_solve.proofs.Solutions.{ones_are_least}
use Rattle.circuit_solve.proofs.Solutions.{solved_exists, solved_unique}
use Rattle.circuit_words.specs.declared.job.CircuitJob.{CircuitJob}
use Rattle.circuit_words.specs.declared.job.CircuitMode.{CircuitMode}
use Rattle.circuit_words.specs.declared.job.CircuitMode.TheVariants.{Anf, Basis, Count, Equal}
use Rattle.circuit_words.proofs.Asked.{apart, one_job}
use Rattle.set_algebra.specs.declared.refusal.TermsRefusal.{TermsRefusal}
use Rattle.set_algebra.specs.declared.refusal.TermsRefusal.TheVariants as stops
use Rattle.watch.specs.Notes.{WatcherState}
use Rattle.program.specs.Duties.{IsLawful, IsOwed, done, paged, silent}
use Rattle.program.specs.Runs.{EndsWithout, Ran, due_without, no_memory}
use Rattle.program.specs.declared.outcome.Outcome.{Outcome}
use Rattle.program.specs.declared.outcome.Outcome.TheVariants as ends
use Rattle.program.proofs.Endings.{ends_as, ran_alone}
use Rattle.circuit_run.specs.Due.{CircuitDue, IsDue, IsDueOn, compared, equal_end, first_limit, has_basis, no_circuit, no_view, on_view}
use Rattle.circuit_run.specs.Due.{solution_text, solved, stopped, text_in, with_points, with_solution}
use Rattle.circuit_run.specs.Duty.{circuit_duty}
use Rattle.circuit_run.specs.Parts.{EndsBy, IsEndOf, IsUnread, answer_due}
use Rattle.circuit_run.specs.Subjects.{IsSubject, compares}
use Rattle.circuit_run.specs.Texts.{answered, counts_text, equal_text, measures_of}
use Rattle.circuit_run.specs.Views.{View, view_of}
use Rattle.circuit_run.specs.declared.ends.CircuitEnd.{CircuitEnd}
use Rattle.circuit_run.specs.declared.ends.CircuitEnd.TheVariants.{Different}
use Rattle.circuit_run.specs.declared.answer.Answer.{Answer}
use Rattle.circuit_run.proofs.LeastPoints.{least_ones_once}
use Rattle.circuit_run.proofs.Seeing.{seen_asked}
use Rattle.circuit_run.proofs.Subjects.{one_subject}

-- ---- one end

module _ (job : CircuitJob) (v : View) where
  same_on : {a b : CircuitDue} → IsDueOn job v a → IsDueOn job v b → a ≡ b
  same_on (solved s one asked is) (solved t other again so) =
      ap (with_solution job v) (solved_unique v.circuit v.care (has_basis job.mode) s t asked is so)
  same_on (solved s one asked is) (compared points two again so) = let bad = sym one ∙ two in cc
  same_on (compared points two asked is) (solved t one again so) = let bad = sym one ∙ two in cc
  same_on (compared points two asked is) (compared others too again so) =
      ap (with_points job v) (least_ones_once v.circuit v.care points others is so)

module _ {job : CircuitJob} {bytes : List ℕ} where
  pub same_due : {a b : CircuitDue} → IsDue job bytes a → IsDue job bytes b → a ≡ b
  same_due (no_circuit end x) (no_circuit other y) = let same = one_subject x y in cc
  same_due (no_circuit end x) (no_view c other y seen) = let bad = one_subject x y in cc
  same_due (no_circuit end x) (on_view c v due y seen is) = let bad = one_subject x y in cc
  same_due (no_view c end x seen) (no_circuit other y) = let bad = one_subject x y in cc
  same_due (no_view c end x seen) (no_view d other y too) = let same = one_subject x y in cc
  same_due (no_view c end x seen) (on_view d v due y too is) = let same = one_subject x y in cc
  same_due (on_view c v due x seen is) (no_circuit other y) = let bad = one_subject x y in cc
  same_due (on_view c v due x seen is) (no_view d end y too) = let same = one_subject x y in cc
  same_due (on_view c v due x seen is) (on_view d w other y too so) =
      let same = one_subject x y in let views : v ≡ w = cc in
      same_on job w (subst (λ (v : View). IsDueOn job v due) views is) so

-- ---- ends without an answer, and answers

module _ (job : CircuitJob) {bytes : List ℕ} where
  -- a run that looks at no circuit ends so
  pub unread_ends : (o : Outcome CircuitEnd) → EndsBy (IsUnread job bytes) o → EndsWithout (IsDue job bytes) o
  unread_ends (ends.Own end) is = due_without _ (no_circuit end is)
  unread_ends ends.Memory is = no_memory
  unread_ends _ is = absurd is

  module _ {c : Circuit} (read : IsSubject job bytes (Ok c)) where
    -- a run that sees nothing ends so
    pub unseen_ends : (o : Outcome CircuitEnd) → IsEndOf (view_of job c) o → EndsWithout (IsDue job bytes) o
    unseen_ends (ends.Own end) is = due_without _ (no_view c end read is)
    unseen_ends ends.Memory is = no_memory
    unseen_ends _ is = absurd is

    module _ {v : View} (seen : view_of job c ≡ Ok v) where
      -- what is due on the view is due
      pub seen_due : {due : CircuitDue} → IsDueOn job v due → IsDue job bytes due
      seen_due {due = due} is = on_view c v due read seen is

      pub seen_ends : {o : Outcome CircuitEnd} → EndsWithout (IsDueOn job v) o → EndsWithout (IsDue job bytes) o
      seen_ends is = ends_as (λ due h. on_view c v due read seen h) is

      -- that of an answer, or an end without one
      pub answer_seen : (r : Result Answer (Outcome CircuitEnd)) → IfOk r (λ answer. IsDueOn job v (answer_due answer))
          → IfOk r (λ answer. IsDue job bytes (answer_due answer))
      answer_seen (Ok answer) is = seen_due is
      answer_seen (Err o) is = tt

      pub answer_ends : (r : Result Answer (Outcome CircuitEnd)) → IfErr r (EndsWithout (IsDueOn job v))
          → IfErr r (EndsWithout (IsDue job bytes))
      answer_ends (Ok answer) is = tt
      answer_ends (Err o) is = seen_ends is

-- ---- with a solution

module _ (job : CircuitJob) (v : View) (asked : IsAsked v.circuit v.care) (one : compares job.mode ≡ false) where
  abbrev IsSolution : Solved → Type 0
  IsSolution = IsSolved v.circuit v.care (has_basis job.mode)

  abbrev passed : Solved → Option TermsRefusal
  passed = first_limit job.mode job.nodes job.terms v

  gives : (s : Solved) (first : Option TermsRefusal) → IsSolution s → passed s ≡ first
      → IsDueOn job v (option_map_or (λ e. silent (stopped job e)) first (done (text_in job.mode v s)))
  gives s first is found =
      subst (λ r. IsDueOn job v (option_map_or (λ e. silent (stopped job e)) r (done (text_in job.mode v s)))) found
      (solved s one asked is)

  stops_by : (refusal : TermsRefusal) → (refusal ≢ stops.Memory → (s : Solved) → IsSolution s → passed s ≡ Some refusal)
      → EndsWithout (IsDueOn job v) (stopped job refusal)
  stops_by stops.Memory first = no_memory
  stops_by refusal first = let exists = solved_exists v.circuit v.care (has_basis job.mode) asked in
      due_without _ (gives _ _ exists (first (λ e. cc) _ exists))

  -- whose terms are listed
  module _ (mode : job.mode ≢ Count) where
    abbrev refused_by : Solved → Option TermsRefusal
    refused_by = first_refused job.nodes job.terms v.circuit v.care (has_basis job.mode)

    passes : (s : Solved) → passed s ≡ refused_by s
    passes s = in_mode job.mode mode
      where
        in_mode : (m : CircuitMode) → m ≢ Count
            → first_limit m job.nodes job.terms v s ≡ first_refused job.nodes job.terms v.circuit v.care (has_basis m) s
        in_mode Anf other = refl
        in_mode Basis other = refl
        in_mode Count other = absurd (other refl)
        in_mode Equal other = refl

    shows : (s : Solved) → text_in job.mode v s ≡ solution_text v s
    shows s = in_mode job.mode mode
      where
        in_mode : (m : CircuitMode) → m ≢ Count → text_in m v s ≡ solution_text v s
        in_mode Anf other = refl
        in_mode Basis other = refl
        in_mode Count other = absurd (other refl)
        in_mode Equal other = refl

    pub listed_due : (s : Solved) → IsSolution s → refused_by s ≡ None → IsDueOn job v (done (solution_text v s))
    listed_due s is within = subst (λ (text : List ℕ). IsDueOn job v (done text)) (shows s) (gives s None is (passes s ∙ within))

    pub unlisted_ends : (refusal : TermsRefusal)
        → (refusal ≢ stops.Memory → (s : Solved) → IsSolution s → refused_by s ≡ Some refusal)
        → EndsWithout (IsDueOn job v) (stopped job refusal)
    unlisted_ends refusal first = stops_by refusal (λ other s is. passes s ∙ first other s is)

  -- whose terms are counted
  module _ (mode : job.mode ≡ Count) where
    abbrev counts : Solved → List ℕ
    counts s = counts_text (output_names v.circuit) (answered (length v.circuit.outputs) v.care)
        (map (measures_of v.circuit.inputs) s.polynomials)

    pub counted_due : (s : Solved) → IsSolved v.circuit v.care false s → answer_nodes v.circuit v.care ≤ 2 ^ job.nodes
        → IsDueOn job v (done (counts s))
    counted_due s is fits = subst (λ (text : List ℕ). IsDueOn job v (done text)) (ap (λ m. text_in m v s) mode)
        (gives s None (rw mode is) (ap (λ m. first_limit m job.nodes job.terms v s) mode ∙ grind (arith, nat_tests)))

    pub uncounted_ends : 2 ^ job.nodes < answer_nodes v.circuit v.care → EndsWithout (IsDueOn job v) (ends.Exhausted (2 ^ job.nodes))
    uncounted_ends many =
        stops_by stops.Full (λ other s is. ap (λ m. first_limit m job.nodes job.terms v s) mode ∙ grind (arith, nat_tests))

-- ---- with least points

module _ (job : CircuitJob) (v : View) (asked : IsAsked v.circuit v.care) (two : compares job.mode ≡ true) where
  abbrev shown : List (Option ℕ) → List ℕ
  shown points = equal_text v.in_names (output_names v.circuit) (answered (length v.circuit.outputs) v.care) points

  pub compared_due : (points : List (Option ℕ)) → AreLeastOnes v.circuit v.care points → one_nodes v.circuit v.care ≤ 2 ^ job.nodes
      → IsDueOn job v (paged (equal_end points) (shown points))
  compared_due points are fits =
      subst (IsDueOn job v) (rw (le-ltb (2 ^ job.nodes) (one_nodes v.circuit v.care) fits) refl) (compared points two asked are)

  pub uncompared_ends : 2 ^ job.nodes < one_nodes v.circuit v.care → EndsWithout (IsDueOn job v) (ends.Exhausted (2 ^ job.nodes))
  uncompared_ends many =
      due_without _ (subst (IsDueOn job v) (rw (lt-ltb (2 ^ job.nodes) (one_nodes v.circuit v.care) many) refl)
      (compared _ two asked (ones_are_least v.circuit v.care asked)))

-- ---- something is due for each circuit that a job looks at

pub some_due : (aig : Aig) (job : CircuitJob) (bytes : List ℕ) → IsSubject job bytes (Ok (circuit aig))
    → (due : CircuitDue) × IsDue job bytes due
some_due aig job bytes read = seen (view_of job (circuit aig)) refl
  where
    due_on : (v : View) → IsAsked v.circuit v.care → (both : Bool) → compares job.mode ≡ both → (due : CircuitDue) × IsDueOn job v due
    due_on v asked false one = (_, solved _ one asked (solved_exists v.circuit v.care (has_basis job.mode) asked))
    due_on v asked true two = (_, compared _ two asked (ones_are_least v.circuit v.care asked))

    seen : (r : Result View CircuitEnd) → view_of job (circuit aig) ≡ r → (due : CircuitDue) × IsDue job bytes due
    seen (Err end) is = (_, no_view (circuit aig) end read is)
    seen (Ok v) is =
        let found = due_on v (seen_asked aig job v is) (compares job.mode) refl in
        (found.0, on_view (circuit aig) v found.0 read is found.1)

-- ---- the program is lawful

-- an end without an answer that is none of words and faults is owed
module _ (job : CircuitJob) (v : View) where
  limited : (first : Option TermsRefusal) (text : List ℕ)
      → IsOwed circuit_duty (option_map_or (λ e. silent (stopped job e)) first (done text))
  limited None text = record { usage = λ e. cc; read = λ e. cc; write = λ e. cc; answer = inl (lit≤ tt) }
  limited (Some stops.Full) text = record { usage = λ e. cc; read = λ e. cc; write = λ e. cc; answer = inr refl }
  limited (Some stops.Over) text = record { usage = λ e. cc; read = λ e. cc; write = λ e. cc; answer = inr refl }
  limited (Some stops.Memory) text = record { usage = λ e. cc; read = λ e. cc; write = λ e. cc; answer = inr refl }

  pointed : (full some : Bool) (text : List ℕ) → IsOwed circuit_duty
      (if full then silent (ends.Exhausted (2 ^ job.nodes)) else paged (if some then ends.Own Different else ends.Done) text)
  pointed true some text = record { usage = λ e. cc; read = λ e. cc; write = λ e. cc; answer = inr refl }
  pointed false true text = record { usage = λ e. cc; read = λ e. cc; write = λ e. cc; answer = inl (lit≤ tt) }
  pointed false false text = record { usage = λ e. cc; read = λ e. cc; write = λ e. cc; answer = inl (lit≤ tt) }

  on_owed : (due : CircuitDue) → IsDueOn job v due → IsOwed circuit_duty due
  on_owed due (solved s one asked is) = limited (first_limit job.mode job.nodes job.terms v s) (text_in job.mode v s)
  on_owed due (compared points two asked is) =
      pointed (nat_lt (2 ^ job.nodes) (one_nodes v.circuit v.care)) (list_any is_some points)
      (equal_text v.in_names (output_names v.circuit) (answered (length v.circuit.outputs) v.care) points)

circuit_owed : (job : CircuitJob) (bytes : List ℕ) (due : CircuitDue) → IsDue job bytes due → IsOwed circuit_duty due
circuit_owed job bytes due (no_circuit end is) = record { usage = λ e. cc; read = λ e. cc; write = λ e. cc; answer = inr refl }
circuit_owed job bytes due (no_view c end is seen) = record { usage = λ e. cc; read = λ e. cc; write = λ e. cc; answer = inr refl }
circuit_owed job bytes due (on_view c v other is seen on) = on_owed job v other on

pub circuit_lawful : IsLawful circuit_duty
circuit_lawful = record {
  apart = apart;
  one_job = one_job;
  one_due = λ job bytes a b x y. same_due x y;
  owed = circuit_owed;
  own = λ e. grind arith;
}

-- ---- a run that has no watchers

pub ran_from : {words : List (List ℕ)} {left old new : Option (List ℕ)} {before after : List WatcherState} {o : Outcome CircuitEnd}
    → before ≡ [] → Ran circuit_duty (λ job due. Unit {0}) words left old new before after o
    → Ran circuit_duty (λ job due. Unit {0}) words left old new [] [] o
ran_from {words = words} {left = left} {old = old} {new = new} {after = after} {o = o} is ran =
    ran_alone (subst (λ (before : List WatcherState). Ran circuit_duty (λ job due. Unit {0}) words left old new before after o) is ran)
