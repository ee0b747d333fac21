-- The names that a text has, one after the other, and names with marks.
use Rattle.std.proofs.Common.{◌≡◌, ◌≢◌, ℕ, ◌+◌, ◌-◌, ◌≤◌, ◌<◌, Bool, true, false, eqb, List, [], ◌∷◌, ◌++◌, length, get_or, set}
use Rattle.std.proofs.Common.{take, map, replicate, refl, sym, ap, ◌∙◌, arith}
use Rattle.std.proofs.lemmas.Bool.{cases_eq, eqb-true, eq-eqb, true≢false}
use Rattle.std.proofs.lemmas.Grind.{common_steps}
use Rattle.std.proofs.lemmas.List.{length-map, length-set, length-take, length-replicate, get_or-map, get_or-take, get_or-set_same}
use Rattle.std.proofs.lemmas.List.{get_or-set_other, get_or-replicate, map_more, same_lists, take_all, take-map}
use Rattle.std.proofs.lemmas.List.Elements.{All-push}
use Rattle.std.proofs.lemmas.List.Folds.{Any-from_list_any, list_any_at}
use Rattle.std.proofs.lemmas.List.Quantifiers.{all_pairs_push}
use Rattle.lattice.specs.Words.{has}
use Rattle.lattice.proofs.Polynomials.{has_push_same, has_push_other}
use Rattle.pla_reader.specs.Orders.{file_order, names_between, order_named, position_named}
use Rattle.aig_inputs.specs.Arranged.{is_inverted}
use Rattle.aig_inputs.specs.Names.{AreInputs, marked_name, marked_names}
use Rattle.aig_inputs.proofs.Positions.{file_places}

-- ---- names with marks

pub marked_names_none : (inverted : List Bool) (names : List (List ℕ)) → marked_names [] inverted names ≡ []
unfolding marked_names
marked_names_none inverted names = refl

pub marked_names_more : (order : List ℕ) (inverted : List Bool) (names : List (List ℕ)) (i : ℕ) → i < length order
    → marked_names (take (i + 1) order) inverted names ≡ marked_names (take i order) inverted names
    ++ marked_name (is_inverted inverted (get_or order i 0)) (get_or names (get_or order i 0 - 1) []) ∷ []
unfolding marked_names
marked_names_more order inverted names i less =
    map_more (λ position. marked_name (is_inverted inverted position) (get_or names (position - 1) [])) order i 0 less

pub ruleset naming_steps = (common_steps, marked_names_none, marked_names_more)

-- ---- marks, one after the other

-- for each of n inputs, whether its position is one of these
pub record AreMarks (n : ℕ) (positions : List ℕ) (marks : List Bool) : Type 0 where
  pub count : length marks ≡ n
  pub each : (p : ℕ) (d : Bool) → 1 ≤ p → p ≤ n → get_or marks (p - 1) d ≡ has positions p

pub no_marks : (n : ℕ) → AreMarks n [] (replicate n false)
unfolding has
no_marks n = record {
  count = length-replicate n false;
  each = λ p d some few. get_or-replicate n (p - 1) false d (omega arith);
}

pub more_marks : (n : ℕ) (positions : List ℕ) (marks : List Bool) (q : ℕ) → AreMarks n positions marks → 1 ≤ q → q ≤ n
    → AreMarks n (positions ++ q ∷ []) (set marks (q - 1) true)
more_marks n positions marks q are some few = record {
  count = length-set marks (q - 1) true ∙ are.count;
  each = λ p d more less. grind (arith, cases_eq p q, are.each p d, get_or-set_same, get_or-set_other, has_push_same, has_push_other);
}

pub marks_are : (n : ℕ) (positions : List ℕ) (marks : List Bool) → AreMarks n positions marks → marks ≡ map (has positions) (file_order n)
marks_are n positions marks are =
    let places = file_places n in
    same_lists marks (map (has positions) (file_order n)) (omega (arith, are.count, length-map (file_order n) (has positions), places.0))
    (λ k d less.
    grind (arith, are.count, places.0, are.each (k + 1) d, places.1 (k + 1) 0, get_or-map (has positions) (file_order n) k 0 d))

-- ---- positions, one after the other

pub none_named : (n : ℕ) → AreInputs n []
none_named n = record { known = λ k d less. absurd (omega arith); once = λ i j d before within same. omega arith }

pub more_named : (n : ℕ) (positions : List ℕ) (q : ℕ) → AreInputs n positions → q ≤ n → has positions q ≡ false
    → AreInputs n (positions ++ q ∷ [])
unfolding has
more_named n positions q are few none = record {
  known = All-push (λ position. position ≤ n) positions q are.known few;
  once = all_pairs_push (λ i j. i ≢ j) positions q are.once (λ k d less same.
      true≢false (sym (list_any_at (λ y. eqb y q) positions k d less (eq-eqb (get_or positions k d) q same)) ∙ none));
}

-- the positions of the first k names of a text
abbrev pub first_named : (names : List (List ℕ)) (text : List ℕ) (k : ℕ) → List ℕ
first_named names text k = map (position_named names) (take k (names_between text))

pub all_named : (names : List (List ℕ)) (text : List ℕ) (k : ℕ) → length (names_between text) ≤ k
    → first_named names text k ≡ order_named names text
unfolding order_named
all_named names text k all = ap (map (position_named names)) (take_all k (names_between text) all)

module _ (names : List (List ℕ)) (text : List ℕ) (k : ℕ) (name : List ℕ) (less : k < length (names_between text))
    (is : name ≡ get_or (names_between text) k name) where
  abbrev number : ℕ
  number = position_named names name

  pub one_more : first_named names text (k + 1) ≡ first_named names text k ++ number ∷ []
  one_more = map_more (position_named names) (names_between text) k name less
      ∙ ap (λ piece. first_named names text k ++ position_named names piece ∷ []) (sym is)

  -- where all the names are those of inputs, each of which stands once
  module _ (good : AreInputs (length names) (order_named names text)) where
    its_number : (d : ℕ) → get_or (order_named names text) k d ≡ number
    unfolding order_named
    its_number d = get_or-map (position_named names) (names_between text) k name d less ∙ ap (position_named names) (sym is)

    within : k < length (order_named names text)
    unfolding order_named
    within = omega (arith, length-map (names_between text) (position_named names))

    pub is_known : number ≤ length names
    is_known = omega (arith, good.known k 0 within, its_number 0)

    pub is_new : has (first_named names text k) number ≡ true → ⊥
    unfolding has order_named
    is_new found =
        let any = Any-from_list_any (λ y. eqb y number) (first_named names text k) found in
        let least = simp (length-map, length-take) at any.2 in let before : any.0 < k = omega arith in
        let there : get_or (order_named names text) any.0 any.1 ≡ any.1 =
        sym (get_or-take k (order_named names text) any.0 any.1 before)
        ∙ ap (λ ps. get_or ps any.0 any.1) (take-map (position_named names) k (names_between text)) ∙ any.3 in
        good.once any.0 k any.1 before within (there ∙ eqb-true any.1 number any.4 ∙ sym (its_number any.1))
