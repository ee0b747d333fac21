-- The answers of a consistent description, what a store holds that found them, how many jobs find them, and what is due by the limits
-- that are passed.
use Rattle.std.proofs.Common.{◌≡◌, ℕ, ◌+◌, ◌^◌, ◌<◌, ◌≤◌, true, false, cond, List, [], ◌∷◌, length, map, refl, sym, ap, subst, ◌∙◌, ⊎_elim}
use Rattle.std.proofs.Common.{inl, inr, append-nil, arith}
use Rattle.std.specs.List.{sum_by, flat_map}
use Rattle.std.proofs.lemmas.Bool.{cases_Bool, le-ltb, lt-ltb}
use Rattle.std.proofs.lemmas.List.{length-append, length-map}
use Rattle.std.proofs.lemmas.List.Concat.{length-flat_map}
use Rattle.std.proofs.lemmas.List.Folds.{fold-map}
use Rattle.std.proofs.lemmas.List.Sums.{sum_by-append, sum_by-cons}
use Rattle.std.proofs.lemmas.Option.{get_or_from_slice_get, slice_get_within}
use Rattle.lattice.specs.Words.{Family, Covers, reduced_basis_of, IsConsistent, points_where, is_basis, first_phase, second_phase}
use Rattle.lattice.specs.Words.{output_numbers, working_set}
use Rattle.lattice.specs.declared.kind.Mode.{Mode}
use Rattle.lattice.proofs.Diagrams.{covered_length, covers_left, working_set_is_distinct}
use Rattle.lattice.proofs.Polynomials.{IsFamily-care_set, IsFamily-family_where, IsLeast-interpolate, reduced_basis_exists}
use Rattle.lattice.proofs.Polynomials.{care_points_disjoint}
use Rattle.node_store.specs.Stores.{State, family}
use Rattle.node_store.specs.declared.store.Handle.{Handle}
use Rattle.cli_words.specs.declared.job.Job.{Job}
use Rattle.pla_reader.specs.Reading.{Description}
use Rattle.anf_printer.specs.Text.{Answer}
use Rattle.interp_run.specs.Answers.{IsAnswerOf, AreAnswers, first_count, second_count, first_nodes, last_nodes}
use Rattle.program.specs.Duties.{silent}
use Rattle.program.specs.Outcomes.{HasText}
use Rattle.program.specs.Runs.{EndsWithout, due_without, no_memory}
use Rattle.program.specs.declared.outcome.Outcome.TheVariants as ends
use Rattle.interp_run.specs.Due.{IsDueSolving, first_passed, has_answers, solved}
use Rattle.interp_run.specs.Ends.{end_way}
use Rattle.interp_run.specs.Parts.{FirstFits, jobs_for, unsolved_outcome}
use Rattle.interp_run.specs.Phases.{AreOf, IsSecond, OutputHandles, answer_for, answer_in, answers_for, element_task, first_tasks}
use Rattle.interp_run.specs.Phases.{leads_in, ones_in, points_in, second_tasks, second_terms, task, task_family, terms_of, zeros_in}
use Rattle.interp_run.specs.declared.tasks.Part.TheVariants.{Leads, Polynomial}
use Rattle.set_algebra.specs.declared.refusal.TermsRefusal.{TermsRefusal}
use Rattle.set_algebra.specs.declared.refusal.TermsRefusal.TheVariants as unsolved
use Rattle.interp_run.proofs.OutputLists.{length-output_numbers, output_at}

-- ---- the answers

pub answers_are : (d : Description) (mode : Mode) → IsConsistent d.inputs d.outputs d.rows → AreAnswers d mode (answers_for d mode)
unfolding points_where reduced_basis_of
answers_are d mode ok = record {
  consistent = ok;
  count = length-map (output_numbers d.outputs) (answer_for d mode) ∙ length-output_numbers d.outputs;
  each = λ k a e.
      let mapped = length-map (output_numbers d.outputs) (answer_for d mode) in
      let inside : k < d.outputs = omega (arith, slice_get_within (answers_for d mode) k a e, mapped, length-output_numbers d.outputs) in
      subst (IsAnswerOf d mode (k + 1)) (sym (output_at (answer_for d mode) d.outputs k a inside)
      ∙ get_or_from_slice_get (answers_for d mode) k a a e)
      (record {
        least = IsLeast-interpolate d.inputs (zeros_in d (k + 1)) (ones_in d (k + 1)) (IsFamily-family_where d.inputs _).below
            (IsFamily-family_where d.inputs _).below
            (care_points_disjoint d.inputs d.outputs d.kind d.rows (k + 1) ok (omega arith) (omega arith));
        basis = λ e. rw e (reduced_basis_exists d.inputs (points_in d (k + 1)) (IsFamily-care_set d.inputs d.kind d.rows (k + 1)));
        bare = λ e. rw e refl;
      });
}

-- ---- working sets

-- the plan of a run has what phase 1 needs
pub first_planned : (d : Description) (mode : Mode) (plan : List Family)
    → plan ≡ working_set d.inputs (second_phase d.inputs d.outputs d.kind d.rows mode)
    → Covers plan (working_set d.inputs (first_phase d.inputs d.outputs d.kind d.rows mode))
unfolding second_phase
first_planned d mode plan is = rw is (covers_left d.inputs _ (first_phase d.inputs d.outputs d.kind d.rows mode) _ (λ f h. h))

pub first_within_last : (d : Description) (mode : Mode) → first_nodes d mode ≤ last_nodes d mode
first_within_last d mode = covered_length _ _ (working_set_is_distinct d.inputs (first_phase d.inputs d.outputs d.kind d.rows mode))
    (first_planned d mode _ refl)

-- ---- what is counted

pub sum_by-map : {X Y : Type 0} (f : Y → ℕ) (h : X → Y) (xs : List X) → sum_by f (map h xs) ≡ sum_by (λ x. f (h x)) xs
sum_by-map f h xs = fold-map (λ (n : ℕ) y. n + f y) h 0 xs

sum_of_both : {X : Type 0} (f g : X → ℕ) (xs : List X) → sum_by f xs + sum_by g xs ≡ sum_by (λ x. f x + g x) xs
sum_of_both f g [] = refl
sum_of_both f g (x ∷ xs) = omega (arith, sum_by-cons f x xs, sum_by-cons g x xs, sum_by-cons (λ y. f y + g y) x xs, sum_of_both f g xs)

sum_of_none : {X : Type 0} (xs : List X) → sum_by (λ _. 0) xs ≡ 0
sum_of_none [] = refl
sum_of_none (x ∷ xs) = omega (arith, sum_by-cons (λ _. 0) x xs, sum_of_none xs)

-- the terms that are counted of what phase 2 found are those of the answers
pub answers_counted : (d : Description) (mode : Mode) (t : State) (found : List OutputHandles) → IsSecond t d mode found
    → second_terms t found ≡ second_count (answers_for d mode)
answers_counted d mode t found are = counted found ∙ ap second_count are.answers
  where
    counted : (found : List OutputHandles) → second_terms t found ≡ second_count (map (answer_in t) found)
    counted found = simp sum_by-map

module _ (d : Description) (mode : Mode) where
  abbrev leads : ℕ → ℕ
  leads o = length (leads_in d mode o)

  -- of these outputs
  module _ (os : List ℕ) where
    tasks_counted : length (flat_map (λ o. map (element_task o) (leads_in d mode o)) os) ≡ sum_by leads os
    tasks_counted = simp (length-flat_map, length-map)

    elements_counted : sum_by (λ (a : Answer). length a.basis) (map (answer_for d mode) os) ≡ sum_by leads os
    elements_counted = simp (sum_by-map, length-map)

    leads_counted : sum_by (λ t. length (task_family d t)) (cond (is_basis mode) (map (task Leads) os) []) ≡ sum_by leads os
    leads_counted = elim (cases_Bool (is_basis mode)) [
      | inl basis ↦ simp (basis, sum_by-map)
      | inr bare ↦ simp bare (sym (sum_of_none os))
    ]

    terms_counted : sum_by (λ t. length (task_family d t)) (map (task Polynomial) os) + sum_by leads os ≡
        first_count (map (answer_for d mode) os)
    terms_counted = simp (sum_by-map, sum_of_both, length-map)

    same_counts : is_basis mode ≡ false → second_count (map (answer_for d mode) os) ≡ first_count (map (answer_for d mode) os)
    same_counts bare = simp (sum_by-map, bare)

  abbrev numbers : List ℕ
  numbers = output_numbers d.outputs

  pub first_counted : (s : State) (found : List Handle) → AreOf s d found (first_tasks d mode)
      → terms_of s found ≡ first_count (answers_for d mode)
  first_counted s found are = omega (
    arith,
    sum_by-map length (family s) found,
    ap (sum_by length) are.1,
    sum_by-map length (task_family d) (first_tasks d mode),
    sum_by-append (λ t. length (task_family d t)) (map (task Polynomial) numbers) (cond (is_basis mode) (map (task Leads) numbers) []),
    leads_counted numbers,
    terms_counted numbers,
  )

  -- there are no more tasks in phase 2 than terms are counted, and without bases none
  pub second_few : length (second_tasks d mode) ≤ first_count (answers_for d mode)
  second_few = omega (arith, tasks_counted numbers, terms_counted numbers)

  pub second_none : is_basis mode ≡ false → length (second_tasks d mode) ≡ 0
  second_none bare = tasks_counted numbers ∙ simp bare (sum_of_none numbers)

  first_long : length (first_tasks d mode) ≡ d.outputs + cond (is_basis mode) d.outputs 0
  first_long = grind (arith, length-append, length-map, length-output_numbers)

  pub first_few : d.outputs ≤ 64 → length (first_tasks d mode) ≤ 128
  first_few few = grind (arith, first_long)

  pub jobs_counted : length (first_tasks d mode) + length (second_tasks d mode) ≡ jobs_for mode (answers_for d mode)
  jobs_counted =
      let long : length (answers_for d mode) ≡ d.outputs = length-map numbers (answer_for d mode) ∙ length-output_numbers d.outputs in
      omega (arith, first_long, tasks_counted numbers, elements_counted numbers, long, ap (λ n. cond (is_basis mode) n 0) long)

  -- without bases phase 1 is all
  first_is_last : is_basis mode ≡ false → last_nodes d mode ≡ first_nodes d mode
  unfolding second_phase
  first_is_last bare =
      ap (λ list. length (working_set d.inputs list)) (rw bare (append-nil (first_phase d.inputs d.outputs d.kind d.rows mode)))

-- ---- what is due by the limits that are passed

module _ (job : Job) (d : Description) (ok : IsConsistent d.inputs d.outputs d.rows) where
  abbrev slots : ℕ
  slots = 2 ^ job.nodes

  due : IsDueSolving job d (first_passed job d (answers_for d job.mode))
  due = has_answers (answers_for d job.mode) (answers_are d job.mode ok)

  -- in phase 1
  pub first_nodes_over : slots < first_nodes d job.mode → IsDueSolving job d (silent (ends.Exhausted slots))
  first_nodes_over over = simp lt-ltb at due

  pub first_terms_over : first_nodes d job.mode ≤ slots → job.terms < first_count (answers_for d job.mode)
      → IsDueSolving job d (silent (ends.Terms job.terms))
  first_terms_over first over = simp (le-ltb, lt-ltb) at due

  -- in the last phase: phase 2 in mode basis, else phase 1
  module _ (fits : is_basis job.mode ≡ true → FirstFits job d) where
    pub last_nodes_over : slots < last_nodes d job.mode → IsDueSolving job d (silent (ends.Exhausted slots))
    last_nodes_over over = elim (cases_Bool (is_basis job.mode)) [
      | inl basis ↦ let a = (fits basis).nodes in let b = (fits basis).terms in simp (le-ltb, lt-ltb) at due
      | inr bare ↦ first_nodes_over (omega (arith, first_is_last d job.mode bare))
    ]

    module _ (last : last_nodes d job.mode ≤ slots) where
      first : first_nodes d job.mode ≤ slots
      first = omega (arith, first_within_last d job.mode)

      pub last_terms_over : job.terms < second_count (answers_for d job.mode) → IsDueSolving job d (silent (ends.Terms job.terms))
      last_terms_over over = elim (cases_Bool (is_basis job.mode)) [
        | inl basis ↦ let b = (fits basis).terms in let a = first in simp (le-ltb, lt-ltb) at due
        | inr bare ↦ first_terms_over first (omega (arith, same_counts d job.mode (output_numbers d.outputs) bare))
      ]

      pub within_limits : second_count (answers_for d job.mode) ≤ job.terms → IsDueSolving job d (solved job d (answers_for d job.mode))
      within_limits all =
          let a = first in
          let b : first_count (answers_for d job.mode) ≤ job.terms = ⊎_elim (λ basis. (fits basis).terms)
          (λ bare. omega (arith, same_counts d job.mode (output_numbers d.outputs) bare)) (cases_Bool (is_basis job.mode)) in
          simp (le-ltb, lt-ltb) at due

-- how a run ends that was not solved
pub unsolved_ends : (job : Job) (d : Description) (cause : TermsRefusal)
    → (cause ≡ unsolved.Full → IsDueSolving job d (silent (ends.Exhausted (2 ^ job.nodes))))
    → (cause ≡ unsolved.Over → IsDueSolving job d (silent (ends.Terms job.terms)))
    → EndsWithout (IsDueSolving job d) (unsolved_outcome job cause)
unsolved_ends job d cause full terms = grind (arith, due_without, no_memory)

pub unsolved_unfinished : (job : Job) (cause : TermsRefusal) → ¬ HasText end_way (unsolved_outcome job cause)
unsolved_unfinished job cause has = grind arith
