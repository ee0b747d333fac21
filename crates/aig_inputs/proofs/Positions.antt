-- The variable of each position of an order.
use Rattle.std.proofs.Common.{◌≡◌, ◌≢◌, ℕ, zero, suc, ◌+◌, ◌-◌, ◌≤◌, ◌<◌, eqb, inl, inr, List, ◌∷◌, length, get_or}
use Rattle.std.proofs.Common.{sym, ap, ◌∙◌, arith}
use Rattle.std.specs.List.{AllPairs, position_or_len}
use Rattle.std.proofs.lemmas.Bool.{cases_lt, eqb-true, eq-eqb, ne_eqb, true≢false}
use Rattle.std.proofs.lemmas.Bool.Decides.{Decides-eqb}
use Rattle.std.proofs.lemmas.List.{length-map, get_or-map, get_or_push, get_or_append_left}
use Rattle.std.proofs.lemmas.List.Folds.{Any-from_list_any}
use Rattle.std.proofs.lemmas.List.Sums.{fails_before_first, passes_at_first, position_or_len_is}
use Rattle.std.proofs.lemmas.Map.Made.{IsDistinct-from_AllPairs}
use Rattle.std.proofs.lemmas.Map.Steps.{length-le_from_distinct_below}
use Rattle.lattice.specs.Words.{numbers_below}
use Rattle.lattice.proofs.Polynomials.{length-numbers_below}
use Rattle.pla_reader.specs.Orders.{IsOrder, file_order}
use Rattle.aig_inputs.specs.Arranged.{variable_of}

-- ---- each position stands in an order

module _ (n : ℕ) (order : List ℕ) (is : IsOrder n order) (p : ℕ) (some : 1 ≤ p) (few : p ≤ n) where
  abbrev place : ℕ
  place = position_or_len (λ other. eqb other p) order

  -- with a position that is not in it, and 0, an order would have too many numbers that differ
  all_differ : length order ≤ place → AllPairs (λ i j. i ≢ j) (0 ∷ p ∷ order)
  all_differ none i zero d before within same = omega arith
  all_differ none zero (suc zero) d before within same = omega arith
  all_differ none zero (suc (suc j)) d before within same = omega (arith, is.positions j d (omega arith))
  all_differ none (suc i) (suc zero) d before within same = omega arith
  all_differ none (suc zero) (suc (suc j)) d before within same =
      true≢false (sym (eq-eqb (get_or order j d) p (sym same)) ∙ fails_before_first (λ other. eqb other p) order j d (omega arith))
  all_differ none (suc (suc i)) (suc (suc j)) d before within same = is.distinct i j d (omega arith) (omega arith) same

  none_too_great : (i d : ℕ) → i < length (0 ∷ p ∷ order) → get_or (0 ∷ p ∷ order) i d < n + 1
  none_too_great zero d less = omega arith
  none_too_great (suc zero) d less = omega arith
  none_too_great (suc (suc i)) d less = omega (arith, is.positions i d (omega arith))

  is_there : place < length order
  is_there = elim (cases_lt place (length order)) [
    | inl less ↦ less
    | inr none ↦
        let xs : List ℕ = 0 ∷ p ∷ order in
        let most : length xs ≤ n + 1 = length-le_from_distinct_below xs (n + 1) (IsDistinct-from_AllPairs Decides-eqb xs (all_differ none))
        (λ q found. let any = Any-from_list_any (eqb q) xs found in
        omega (arith, none_too_great any.0 any.1 any.2, any.3, eqb-true q any.1 any.4)) in
        absurd (omega (arith, is.count))
  ]

  -- its variable, and its place in the order
  pub variable_within : (1 ≤ variable_of order p) × (variable_of order p ≤ n)
  unfolding variable_of
  variable_within = (omega arith, omega (arith, is_there, is.count))

  pub position_back : (d : ℕ) → get_or order (variable_of order p - 1) d ≡ p
  unfolding variable_of
  position_back d =
      let at : place + 1 - 1 ≡ place = omega arith in
      ap (λ i. get_or order i d) at ∙ eqb-true (get_or order place d) p (passes_at_first (λ other. eqb other p) order d is_there)

-- the variable of the position at a place
pub variable_at : (n : ℕ) (order : List ℕ) (i d : ℕ) → IsOrder n order → i < n → variable_of order (get_or order i d) ≡ i + 1
unfolding variable_of
variable_at n order i d is less =
    let first = position_or_len_is (λ other. eqb other (get_or order i d)) order i d (omega (arith, is.count))
    (λ k before. grind (arith, is.count, is.distinct k i d, ne_eqb)) (λ here. grind (arith, eq-eqb)) in omega (arith, first)

-- ---- the order of the file

number_at_place : (n p d : ℕ) → 1 ≤ p → p ≤ n → get_or (numbers_below n) (p - 1) d ≡ p - 1
unfolding numbers_below
number_at_place zero p d some few = absurd (omega arith)
number_at_place (suc n) p d some few =
    grind (arith, length-numbers_below, get_or_push, get_or_append_left, number_at_place n p d, cases_lt p (suc n))

-- it has so many positions, and each at its own place
pub file_places : (n : ℕ) → (length (file_order n) ≡ n) × ((p d : ℕ) → 1 ≤ p → p ≤ n → get_or (file_order n) (p - 1) d ≡ p)
unfolding file_order
file_places n =
    let count = length-numbers_below n in let next : ℕ → ℕ = λ i. i + 1 in (
      length-map (numbers_below n) next ∙ count,
      λ p d some few. grind (arith, count, get_or-map next (numbers_below n) (p - 1) d d, number_at_place n p d),
    )

pub file_variable : (n p : ℕ) → 1 ≤ p → p ≤ n → variable_of (file_order n) p ≡ p
unfolding variable_of
file_variable n p some few =
    let count = (file_places n).0 in let at = (file_places n).1 in
    let first = position_or_len_is (λ other. eqb other p) (file_order n) (p - 1) 0 (omega arith)
    (λ k before. grind (arith, at (k + 1) 0, ne_eqb)) (λ less. grind (arith, at p 0, eq-eqb)) in omega (arith, first)
