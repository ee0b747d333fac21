-- How a run ends, from what its steps found: words ask for one mode at most, and exactly one thing is due for a mode and bytes that have
-- a description.
use Rattle.std.proofs.Common.{◌≡◌, ◌≢◌, ◌⊎◌, ℕ, List, drop, map, ap, arith, inl, inr, refl, ◌<◌, ◌^◌, ◌≤◌, subst}
use Rattle.std.proofs.Common.{Option, Some, None, []}
use Rattle.std.specs.Prelude.{Ok, Err}
use Rattle.std.specs.List.{AllZip, All}
use Rattle.std.specs.Option.{option_map_or}
use Rattle.std.proofs.lemmas.Bool.{cases_eq}
use Rattle.std.proofs.lemmas.Bool.Decides.{nat_tests}
use Rattle.std.proofs.lemmas.List.{map-id}
use Rattle.std.proofs.lemmas.Slice.Zip.{AllZip-long}
use Rattle.lattice.specs.Words.{Family, IsElementOf, IsFamily, exactly_one, IsConsistent}
use Rattle.lattice.proofs.Polynomials.{IsFamily-combine}
use Rattle.pla_reader.specs.Reading.{Description, GivesReading, bytes_taken, reading_of}
use Rattle.pla_reader.specs.declared.refusal.ReadRefusal.{ReadRefusal}
use Rattle.pla_reader.specs.declared.refusal.Refusal.{Refusal}
use Rattle.pla_reader.specs.declared.refusal.TextRefusal.{TextRefusal}
use Rattle.cube_sets.specs.Clashes.{IsClash, IsLeastOf}
use Rattle.cube_sets.specs.declared.clash.Clash.{Clash}
use Rattle.cube_sets.proofs.OneClash.{none_of_consistent, one_least}
use Rattle.set_algebra.specs.declared.refusal.TermsRefusal.{TermsRefusal}
use Rattle.set_algebra.specs.declared.refusal.TermsRefusal.TheVariants as stops
use Rattle.watch.specs.Notes.{WatcherState}
use Rattle.program.specs.Descriptions.{IsContradiction, unread_outcome}
use Rattle.program.specs.Duties.{Due, Duty, IsLawful, IsOwed, done, silent}
use Rattle.program.specs.Runs.{EndsWithout, Ran, due_without, no_memory}
use Rattle.program.specs.declared.outcome.Outcome.{Outcome}
use Rattle.program.specs.declared.outcome.Outcome.TheVariants as ends
use Rattle.program.proofs.Endings.{clash_ends, ends_as, ran_alone, unread_ends}
use Rattle.lattice.proofs.Polynomials.{err_is, ok_is}
use Rattle.nf_run.specs.Answers.{IsAnswerTo, answer_to, answer_terms, query_nodes}
use Rattle.nf_run.specs.Due.{IsDue, IsDueJoining, IsDueReducing, QueryDue, answers_text, basis_text, contradiction, contradiction_in}
use Rattle.nf_run.specs.Due.{has_answers, has_basis, joining, no_description, no_queries, other_outputs, reducing, stopped}
use Rattle.nf_run.specs.Due.{with_answers, with_basis}
use Rattle.nf_run.specs.Duty.{IsAsked, query_duty}
use Rattle.nf_run.specs.Joint.{IsJointBasis, first_refused, joint_ideal}
use Rattle.nf_run.specs.Parts.{refused_outcome}
use Rattle.nf_run.specs.Queries.{GivesQueries, Reading, query_reading}
use Rattle.nf_run.specs.declared.answer.TheConstants.{MOST_TERMS}
use Rattle.nf_run.specs.declared.ends.QueryEnd.{QueryEnd}
use Rattle.nf_run.specs.declared.ends.QueryEnd.TheVariants.{QueryText}
use Rattle.nf_run.specs.declared.joint.Joining.{Joining}
use Rattle.nf_run.specs.declared.joint.Joining.TheVariants.{Meet, Union}
use Rattle.nf_run.specs.declared.mode.QueryMode.{QueryMode}
use Rattle.nf_run.specs.declared.mode.QueryMode.TheVariants.{Join, Reduce}
use Rattle.nf_run.specs.declared.queries.Query.{Query}
use Rattle.nf_run.specs.declared.queries.QueryWhy.{QueryWhy}
use Rattle.nf_run.proofs.JointBases.{joint_exists, joint_unique}
use Rattle.nf_run.proofs.Found.{zip_all}
use Rattle.nf_run.proofs.QueryAnswers.{all_answered, answers_are, answers_count, answers_over}

-- ---- one mode, and one end of a description

pub same_mode : (words : List (List ℕ)) (m k : QueryMode) → IsAsked words m → IsAsked words k → m ≡ k
same_mode words m k x y = grind arith

module _ (bits : ℕ) (d : Description) where
  no_clash : (c : Clash) → IsConsistent d.inputs d.outputs d.rows → IsLeastOf (IsClash d.inputs d.outputs d.rows d.rows) c → ⊥
  no_clash c ok least = none_of_consistent d.inputs d.outputs d.rows ok c least.clash

  same_clash : (c e : Clash) → IsLeastOf (IsClash d.inputs d.outputs d.rows d.rows) c
      → IsLeastOf (IsClash d.inputs d.outputs d.rows d.rows) e
      → ◌≡◌ {A = QueryDue} (silent (ends.Contradiction c)) (silent (ends.Contradiction e))
  same_clash c e x y = ap (λ (f : Clash). silent (ends.Contradiction f)) (one_least _ c e x y)

  module _ (text : List ℕ) where
    same_answered : (queries queries' : List Query) (answers answers' : List Family) → query_reading d text ≡ Ok queries
        → query_reading d text ≡ Ok queries' → AllZip (IsAnswerTo d) queries answers → AllZip (IsAnswerTo d) queries' answers'
        → with_answers bits d queries answers ≡ with_answers bits d queries' answers'
    same_answered queries queries' answers answers' x y are are' =
        let same = ok_is (query_reading d text) x y in let are_these = λ (qs : List Query). answers_are d (λ p. p) qs in
        cc (same, map-id answers, are_these queries answers are, map-id answers', are_these queries' answers' are')

    same_reducing : {a b : QueryDue} → IsDueReducing bits d text a → IsDueReducing bits d text b → a ≡ b
    same_reducing (no_queries line why x) (no_queries line' why' y) =
        ap (λ (r : ℕ × QueryWhy). silent (ends.Own (QueryText r.0 r.1))) (err_is (query_reading d text) x y)
    same_reducing (no_queries line why x) (contradiction_in queries c y least) = cc
    same_reducing (no_queries line why x) (has_answers queries answers y ok are) = cc
    same_reducing (contradiction_in queries c x least) (no_queries line why y) = cc
    same_reducing (has_answers queries answers x ok are) (no_queries line why y) = cc
    same_reducing (contradiction_in queries c x least) (contradiction_in queries' e y least') = same_clash c e least least'
    same_reducing (contradiction_in queries c x least) (has_answers queries' answers y ok are) = absurd (no_clash c ok least)
    same_reducing (has_answers queries answers x ok are) (contradiction_in queries' c y least) = absurd (no_clash c ok least)
    same_reducing (has_answers queries answers x ok are) (has_answers queries' answers' y ok' are') =
        same_answered queries queries' answers answers' x y are are'

  module _ (how : Joining) where
    same_joining : {a b : QueryDue} → IsDueJoining bits d how a → IsDueJoining bits d how b → a ≡ b
    same_joining (other_outputs x) (other_outputs y) = refl
    same_joining (other_outputs x) (contradiction c y least) = absurd (x y)
    same_joining (other_outputs x) (has_basis basis y ok is) = absurd (x y)
    same_joining (contradiction c x least) (other_outputs y) = absurd (y x)
    same_joining (has_basis basis x ok is) (other_outputs y) = absurd (y x)
    same_joining (contradiction c x least) (contradiction e y least') = same_clash c e least least'
    same_joining (contradiction c x least) (has_basis basis y ok is) = absurd (no_clash c ok least)
    same_joining (has_basis basis x ok is) (contradiction c y least) = absurd (no_clash c ok least)
    same_joining (has_basis basis x ok is) (has_basis basis' y ok' is') =
        ap (with_basis bits d how) (joint_unique d how basis basis' is is')

-- ---- one end

module _ (mode : QueryMode) (bits : ℕ) (bytes : List ℕ) where
  text_once : {b : QueryDue} (refusal : Refusal) → reading_of bytes ≡ Err refusal → IsDue mode bits bytes b
      → silent (ends.Text refusal.line refusal.why) ≡ b
  text_once refusal x y = grind arith

  reducing_once : {b due : QueryDue} (d : Description) → reading_of bytes ≡ Ok d → mode ≡ Reduce
      → IsDueReducing bits d (drop (bytes_taken bytes) bytes) due → IsDue mode bits bytes b → due ≡ b
  reducing_once d x is h y = grind (arith, same_reducing)

  joining_once : {b due : QueryDue} (d : Description) (how : Joining) → reading_of bytes ≡ Ok d → mode ≡ Join how
      → IsDueJoining bits d how due → IsDue mode bits bytes b → due ≡ b
  joining_once d how x is h y = grind (arith, same_joining)

  pub same_due : {a b : QueryDue} → IsDue mode bits bytes a → IsDue mode bits bytes b → a ≡ b
  same_due (no_description refusal x) y = text_once refusal x y
  same_due (reducing d due x is h) y = reducing_once d x is h y
  same_due (joining d how due x is h) y = joining_once d how x is h y

-- ---- something is due for each description

module _ (bits : ℕ) (d : Description) where
  abbrev Searched : Type 0
  Searched = IsConsistent d.inputs d.outputs d.rows ⊎ ((c : Clash) × IsLeastOf (IsClash d.inputs d.outputs d.rows d.rows) c)

  some_reducing : (text : List ℕ) → Searched → (r : Reading) → query_reading d text ≡ r → (due : QueryDue) × IsDueReducing bits d text due
  some_reducing text found (Err (line, why)) e = (_, no_queries line why e)
  some_reducing text (inl ok) (Ok queries) e = (_, has_answers queries _ e ok (all_answered d queries))
  some_reducing text (inr h) (Ok queries) e = (_, contradiction_in queries h.0 e h.1)

  some_joining : (how : Joining) → Searched → (d.outputs ≡ 2) ⊎ (d.outputs ≢ 2) → (due : QueryDue) × IsDueJoining bits d how due
  some_joining how found (inr others) = (_, other_outputs others)
  some_joining how (inl ok) (inl two) = (_, has_basis _ two ok (joint_exists d how))
  some_joining how (inr h) (inl two) = (_, contradiction h.0 two h.1)

  pub some_due : Searched → (mode : QueryMode) (bytes : List ℕ) → reading_of bytes ≡ Ok d → (due : QueryDue) × IsDue mode bits bytes due
  some_due found Reduce bytes is =
      let some = some_reducing (drop (bytes_taken bytes) bytes) found _ refl in (some.0, reducing d some.0 is refl some.1)
  some_due found (Join how) bytes is =
      let some = some_joining how found (cases_eq d.outputs 2) in (some.0, joining d how some.0 is refl some.1)

-- ---- in mode reduce

module _ {bits : ℕ} {d : Description} {text : List ℕ} where
  pub refused_ends : (refusal : TextRefusal QueryWhy) → GivesQueries (Err refusal) (query_reading d text)
      → EndsWithout (IsDueReducing bits d text) (refused_outcome refusal)
  refused_ends refusal is = grind (arith, due_without, no_queries, no_memory)

  module _ {queries : List Query} (read : query_reading d text ≡ Ok queries) where
    pub clash_reduced : {o : Outcome QueryEnd} → IsContradiction d o → EndsWithout (IsDueReducing bits d text) o
    clash_reduced = clash_ends d (λ c least. contradiction_in queries c read least)

    module _ (ok : IsConsistent d.inputs d.outputs d.rows) where
      all_due : {due : QueryDue} → with_answers bits d queries (map (answer_to d) queries) ≡ due → IsDueReducing bits d text due
      all_due is = subst (IsDueReducing bits d text) is (has_answers queries _ read ok (all_answered d queries))

      pub unreduced_ends : (refusal : TermsRefusal) → (refusal ≡ stops.Full → 2 ^ bits < query_nodes d queries)
          → (refusal ≡ stops.Over → (query_nodes d queries ≤ 2 ^ bits) × (MOST_TERMS < answer_terms d queries))
          → EndsWithout (IsDueReducing bits d text) (stopped bits refusal)
      unreduced_ends refusal exhausted terms = grind (arith, nat_tests, answers_count d queries, all_due, due_without, no_memory)

      pub answers_due : query_nodes d queries ≤ 2 ^ bits → answer_terms d queries ≤ MOST_TERMS
          → IsDueReducing bits d text (done (answers_text d queries (map (answer_to d) queries)))
      answers_due fits few = all_due (grind (arith, nat_tests, answers_count d queries))

-- ---- in modes union and meet

module _ {bits : ℕ} {d : Description} {how : Joining} (two : d.outputs ≡ 2) where
  pub clash_joined : {o : Outcome QueryEnd} → IsContradiction d o → EndsWithout (IsDueJoining bits d how) o
  clash_joined = clash_ends d (λ c least. contradiction c two least)

  module _ (ok : IsConsistent d.inputs d.outputs d.rows) where
    basis_gives : (basis : List Family) (first : Option TermsRefusal) → IsJointBasis d how basis
        → first_refused bits MOST_TERMS d how basis ≡ first
        → IsDueJoining bits d how (option_map_or (λ e. silent (stopped bits e)) first (done (basis_text d basis)))
    basis_gives basis first is found = subst (λ r. IsDueJoining bits d how (option_map_or (λ e. silent (stopped bits e)) r
        (done (basis_text d basis)))) found (has_basis basis two ok is)

    pub stopped_ends : (refusal : TermsRefusal)
        → (refusal ≢ stops.Memory → (basis : List Family) → IsJointBasis d how basis
        → first_refused bits MOST_TERMS d how basis ≡ Some refusal)
        → EndsWithout (IsDueJoining bits d how) (stopped bits refusal)
    stopped_ends stops.Memory first = no_memory
    stopped_ends refusal first = let exists = joint_exists d how in due_without _ (basis_gives _ _ exists (first (λ e. cc) _ exists))

    pub basis_due : (basis : List Family) → IsJointBasis d how basis → first_refused bits MOST_TERMS d how basis ≡ None
        → IsDueJoining bits d how (done (basis_text d basis))
    basis_due basis is within = basis_gives basis None is within

-- the elements of the basis are polynomials
member_over : (d : Description) (how : Joining) (e : Family) → joint_ideal d how e → IsFamily d.inputs e
member_over d Union e h = h.0.0
member_over d Meet e h = rw h.4 (IsFamily-combine exactly_one d.inputs h.0 h.1)

pub basis_over : (d : Description) (how : Joining) (basis : List Family) → IsJointBasis d how basis → All (IsFamily d.inputs) basis
basis_over d how basis is =
    zip_all (IsElementOf (joint_ideal d how)) (IsFamily d.inputs) (λ m e h. member_over d how e h.member) is.leads basis is.elements

-- ---- for a mode and the bytes

module _ {mode : QueryMode} {bits : ℕ} {bytes : List ℕ} where
  pub undescribed_ends : (refusal : ReadRefusal) → GivesReading (Err refusal) (reading_of bytes)
      → EndsWithout (IsDue mode bits bytes) (unread_outcome refusal)
  undescribed_ends = unread_ends bytes no_description

  module _ {d : Description} (read : reading_of bytes ≡ Ok d) where
    pub reduced_ends : {o : Outcome QueryEnd} → mode ≡ Reduce
        → EndsWithout (IsDueReducing bits d (drop (bytes_taken bytes) bytes)) o → EndsWithout (IsDue mode bits bytes) o
    reduced_ends is = ends_as (λ due h. reducing d due read is h)

    pub joined_ends : {o : Outcome QueryEnd} {how : Joining} → mode ≡ Join how → EndsWithout (IsDueJoining bits d how) o
        → EndsWithout (IsDue mode bits bytes) o
    joined_ends {how = how} is = ends_as (λ due h. joining d how due read is h)

-- ---- the program is lawful

module _ (mode : QueryMode) (bits : ℕ) (bytes : List ℕ) where
  query_owed : (due : QueryDue) → IsDue mode bits bytes due → IsOwed (query_duty bits) due
  query_owed due h = grind arith

pub query_lawful : (bits : ℕ) → IsLawful (query_duty bits)
query_lawful bits = record {
  apart = λ words mode none asked. none mode asked;
  one_job = same_mode;
  one_due = λ mode bytes a b x y. same_due mode bits bytes x y;
  owed = λ mode bytes due h. query_owed mode bits bytes due h;
  own = λ e. inr (inl refl);
}

-- ---- a run that has no watchers

pub ran_from : {Job E : Type 0} {duty : Duty Job E} {earned : Job → Due E → Type 0} {words : List (List ℕ)} {left old new : Option (List ℕ)}
    {before after : List WatcherState} {o : Outcome E} → before ≡ [] → Ran duty earned words left old new before after o
    → Ran duty earned words left old new [] [] o
ran_from {duty = duty} {earned = earned} {words = words} {left = left} {old = old} {new = new} {after = after} {o = o} is ran =
    ran_alone (subst (λ (before : List WatcherState). Ran duty earned words left old new before after o) is ran)

-- ---- what the goals of the functions use

pub ruleset reduced_rules = (refused_ends, clash_reduced, unreduced_ends, answers_due, no_memory, AllZip-long, answers_are, answers_over)

pub ruleset joined_rules = (other_outputs, due_without, clash_joined, stopped_ends, basis_due, basis_over, no_memory)

pub ruleset answer_rules = (undescribed_ends, reduced_ends, joined_ends, reducing, joining)
