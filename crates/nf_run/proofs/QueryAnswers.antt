-- The care points of the outputs and the answers to queries, one after the other.
use Rattle.std.proofs.Common.{◌≡◌, ℕ, zero, suc, ◌+◌, ◌-◌, ◌<◌, Ok, Bool, true, List, [], ◌∷◌, ◌++◌, length, take, get_or, ◌^◌}
use Rattle.std.proofs.Common.{map, reverse, refl, sym, ◌∙◌, ap, subst, arith}
use Rattle.std.specs.Prelude.{◌==◌}
use Rattle.std.specs.List.{All, AllZip, list_any, sum_by}
use Rattle.std.proofs.lemmas.Bool.{eqb-true}
use Rattle.std.proofs.lemmas.List.{get_or_append_left, get_or_push, length_push, map-id, take_more}
use Rattle.std.proofs.lemmas.List.Elements.{All-map}
use Rattle.std.proofs.lemmas.List.Folds.{Any-from_list_any, fold-map}
use borrow.Author.Count.{below_more}
use Rattle.lattice.specs.Words.{Covers, Family, IsFamily, working_set}
use Rattle.lattice.proofs.Diagrams.{Has-append_left, Has-append_right, covers_append, covers_left, covers_part, covers_right}
use Rattle.lattice.proofs.Polynomials.{IsFamily-care_set, terms_below}
use Rattle.set_algebra.specs.Terms.{terms_of}
use Rattle.node_store.specs.Stores.{Gives, Grows, State, family, no_handle}
use Rattle.node_store.specs.declared.store.Handle.{Handle}
use Rattle.node_store.proofs.StoreLaws.{Denotes-family, Grows-refl, Grows-trans}
use Rattle.pla_reader.specs.Reading.{Description}
use Rattle.cube_build.specs.CarePoints.{HoldsPoints, points_list}
use Rattle.cube_build.proofs.CareNeeds.{points_later}
use Rattle.nf_run.specs.Answers.{AreAnswered, HoldsAll, IsAnswerTo, answer_terms, answer_to, points_of, queries_list}
use Rattle.nf_run.specs.Answers.{query_list}
use Rattle.nf_run.specs.Queries.{IsQueryOver}
use Rattle.nf_run.specs.Reduced.{reduced, reduced_list, sum_of_terms}
use Rattle.nf_run.specs.declared.queries.Query.{Query}
use Rattle.nf_run.proofs.Found.{found_families, none_found, one_found, terms_counted, zip_map}
use Rattle.nf_run.proofs.LeastValues.{reduced_is, reduced_once}

zip_from : {X Y Z : Type 0} (R : X → Y → Type 0) (f : X → Z) (g : Y → Z) → ((x : X) (y : Y) → g y ≡ f x → R x y)
    → (xs : List X) (ys : List Y) → map g ys ≡ map f xs → AllZip R xs ys
zip_from R f g same [] [] e = tt
zip_from R f g same [] (y ∷ ys) e = cc
zip_from R f g same (x ∷ xs) [] e = cc
zip_from R f g same (x ∷ xs) (y ∷ ys) e = (same x y (cc), zip_from R f g same xs ys (cc))

-- the list of a query is a part of that of all
query_listed : (d : Description) (queries : List Query) (i : ℕ) (q : Query) → i < length queries
    → Covers (queries_list d queries) (query_list d (get_or queries i q))
query_listed d [] i q less f h = absurd (omega arith)
query_listed d (p ∷ queries) zero q less f h = Has-append_left (query_list d p) (queries_list d queries) f h
query_listed d (p ∷ queries) (suc i) q less f h =
    Has-append_right (query_list d p) (queries_list d queries) f (query_listed d queries i q (omega (arith, less)) f h)

module _ (d : Description) (queries : List Query) where
  abbrev is_named : ℕ → Bool
  is_named output = list_any (λ q. q.output == output) queries

  abbrev Planned : List Family → Type 0
  Planned fs = Covers fs (working_set d.inputs (queries_list d queries))

  query_planned : (fs : List Family) → Planned fs → (i : ℕ) (q : Query) → i < length queries → q ≡ get_or queries i q
      → Covers fs (working_set d.inputs (query_list d q))
  query_planned fs planned i q less is = covers_part d.inputs fs (queries_list d queries) (query_list d q) planned
      (subst (λ r. Covers (queries_list d queries) (query_list d r)) (sym is) (query_listed d queries i q less))

  -- the plan has what the care points of a named output need
  pub named_planned : (fs : List Family) → Planned fs → (output : ℕ) → is_named output ≡ true
      → Covers fs (working_set d.inputs (points_list d output))
  named_planned fs planned output named =
      let any = Any-from_list_any (λ q. q.output == output) queries named in
      let at : any.1.output ≡ output = eqb-true any.1.output output any.4 in
      subst (λ o. Covers fs (working_set d.inputs (points_list d o))) at
      (covers_left d.inputs fs (points_list d any.1.output) _ (query_planned fs planned any.0 any.1 any.2 (sym any.3)))

  -- the terms of a query are below the bound of the variables
  pub query_below : (outputs : ℕ) → All (IsQueryOver d.inputs outputs) queries → (i : ℕ) (q : Query) → i < length queries
      → q ≡ get_or queries i q → All (λ m. m < 2 ^ d.inputs) q.terms
  query_below outputs over i q less is =
      let fits = subst (IsQueryOver d.inputs outputs) (sym is) (over i q less) in terms_below d.inputs q.terms fits.polynomial

  -- the care points of the first outputs
  pub record HoldsFirst (s : State) (count : ℕ) (points : List Handle) : Type 0 where
    pub many : length points ≡ count
    pub each : (j : ℕ) → j < count → is_named (j + 1) ≡ true → HoldsPoints s d (j + 1) (get_or points j no_handle)

  pub none_held : (s : State) → HoldsFirst s 0 []
  none_held s = record { many = refl; each = λ j less. absurd (omega arith) }

  pub held_more : (s t : State) (count : ℕ) (points more : List Handle) (h : Handle) → Grows s t → HoldsFirst s count points
      → (is_named (count + 1) ≡ true → HoldsPoints t d (count + 1) h) → more ≡ points ++ h ∷ [] → HoldsFirst t (count + 1) more
  held_more s t count points more h grows first here items = rw items (record {
    many = grind (arith, first.many, length_push points h);
    each = below_more (λ j. is_named (j + 1) ≡ true → HoldsPoints t d (j + 1) (get_or (points ++ h ∷ []) j no_handle)) count
        (λ j less named. rw (get_or_append_left points (h ∷ []) no_handle j (omega (arith, first.many)))
        (points_later s t d (j + 1) _ grows (first.each j less named)))
        (λ named. rw (get_or_push points h no_handle count first.many) (here named));
  })

  -- ---- the answers; s is the state before them, and t the one after i of them

  pub record Answers (s t : State) (i : ℕ) (found : List Handle) : Type 0 where
    pub grows : Grows s t
    pub are : AreAnswered t d (take i queries) found

  pub no_answers : (s : State) → Answers s s 0 []
  no_answers s = record { grows = Grows-refl s; are = none_found s }

  module _ (s : State) (vars_are : s.vars ≡ d.inputs) (planned : Planned s.plan) (points : List Handle)
      (holds : HoldsAll s d queries points) (i : ℕ) (less : i < length queries) (q : Query) (is : q ≡ get_or queries i q) (here : Handle)
      (here_is : here ≡ get_or points (q.output - 1) no_handle) {t : State} {answers : List Handle} (so_far : Answers s t i answers) where
    later_points : HoldsPoints t d q.output here
    later_points = points_later s t d q.output here so_far.grows (rw (here_is, is) (holds i q less))

    points_are : family t here ≡ points_of d q
    points_are = Denotes-family t here (points_of d q) later_points.denotes

    t_vars : t.vars ≡ d.inputs
    t_vars = so_far.grows.vars ∙ vars_are

    list_is : working_set t.vars (reduced_list t.vars q.terms (family t here)) ≡
        working_set d.inputs (reduced_list d.inputs q.terms (points_of d q))
    list_is = rw (t_vars, points_are) refl

    pub answer_planned : Covers t.plan (working_set t.vars (reduced_list t.vars q.terms (family t here)))
    answer_planned = rw (list_is, so_far.grows.plan)
        (covers_right d.inputs s.plan (points_list d q.output) _ (query_planned s.plan planned i q less is))

    pub one_answer : {u : State} {h : Handle} {more : List Handle}
        → Gives t u (Ok h) (reduced t.vars (sum_of_terms t.vars q.terms) (family t here))
        (working_set t.vars (reduced_list t.vars q.terms (family t here)))
        → more ≡ answers ++ h ∷ [] → Answers s u (i + 1) more
    one_answer {u = u} {h = h} {more = more} gives items =
        let next : take (i + 1) queries ≡ take i queries ++ q ∷ [] =
        take_more queries i q less ∙ ap (λ r. take i queries ++ r ∷ []) (sym is) in
        let held = covers_append d.inputs u.held (points_list d q.output) (reduced_list d.inputs q.terms (points_of d q))
        (λ f j. gives.grows.held f (later_points.held f j)) (rw list_is at gives.held) in
        record {
          grows = Grows-trans s t u so_far.grows gives.grows;
          are = rw next (one_found q gives.grows so_far.are (rw (t_vars, points_are) at gives.ok) held items);
        }

-- ---- what is counted and printed

module _ (d : Description) where
  points_fit : (q : Query) → IsFamily d.inputs (points_of d q)
  points_fit q = IsFamily-care_set d.inputs d.kind d.rows q.output

  answer_right : (q : Query) → IsAnswerTo d q (answer_to d q)
  answer_right q = reduced_is d.inputs (sum_of_terms d.inputs q.terms) (points_of d q) (points_fit q)

  same_answer : (q : Query) (p : Family) → IsAnswerTo d q p → p ≡ answer_to d q
  same_answer q p is = reduced_once d.inputs (sum_of_terms d.inputs q.terms) (points_of d q) (points_fit q) p (answer_to d q) is
      (answer_right q)

  -- each query has an answer
  pub all_answered : (queries : List Query) → AllZip (IsAnswerTo d) queries (map (answer_to d) queries)
  all_answered queries = zip_from (IsAnswerTo d) (answer_to d) (λ p. p) (λ q p e. rw e (answer_right q)) queries _ (map-id _)

  -- and one answer
  pub answers_are : {Y : Type 0} (g : Y → Family) (queries : List Query) (ys : List Y) → AllZip (λ q y. IsAnswerTo d q (g y)) queries ys
      → map g ys ≡ map (answer_to d) queries
  answers_are g = zip_map (answer_to d) g (λ q y. same_answer q (g y))

  -- so answers have as many terms as those that are found by families
  pub answers_count : (queries : List Query) → sum_by length (map (answer_to d) queries) ≡ answer_terms d queries
  answers_count queries = fold-map _ (answer_to d) 0 queries

  -- and they are polynomials
  pub answers_over : (queries : List Query) → All (IsFamily d.inputs) (map (answer_to d) queries)
  answers_over queries = All-map (IsFamily d.inputs) (answer_to d) queries (λ k q less. (answer_right (get_or queries k q)).family)

-- t is the state after the answers

module _ {t : State} (d : Description) {queries : List Query} {found : List Handle} (are : AreAnswered t d queries found) where
  pub terms_are : terms_of t found ≡ answer_terms d queries
  terms_are = terms_counted t found (found_families are) ∙ answers_count d queries

  pub lists_right : (lists : List (List ℕ)) → map reverse lists ≡ map (family t) found
      → AllZip (λ q terms. IsAnswerTo d q (reverse terms)) queries lists
  lists_right lists e = zip_from (λ q terms. IsAnswerTo d q (reverse terms)) (answer_to d) reverse
      (λ q terms e. rw e (answer_right d q)) queries lists (e ∙ found_families are)

-- ---- what the care points use

pub ruleset points_rules = (named_planned, none_held, Grows-refl, Grows-trans)
