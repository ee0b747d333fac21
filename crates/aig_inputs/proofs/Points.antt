-- Points of the file, and the points over the variables that have them.
use Rattle.std.proofs.Common.{◌≡◌, ℕ, zero, suc, ◌+◌, ◌-◌, ◌^◌, ◌≤◌, ◌<◌, Bool, true, false, cond, eqb, List, [], ◌∷◌, length, get_or}
use Rattle.std.proofs.Common.{refl, sym, ap, ◌∙◌, arith, pow_pos, pow_mono}
use Rattle.std.proofs.lemmas.Bool.Decides.{nat_tests}
use Rattle.std.proofs.lemmas.Nat.{and_comm}
use Rattle.std.proofs.lemmas.Nat.Bits.{and_pow, bit_at-lt, same_from_bits_below}
use Rattle.std.specs.Int.{bit_at}
use Rattle.lattice.specs.Words.{divides, exactly_one}
use Rattle.lattice.proofs.Polynomials.{divides_high_point, divides_both_high, divides_zero, twice, weight_below, weight_bit}
use Rattle.pla_reader.specs.Orders.{IsOrder, file_order}
use Rattle.pla_reader.specs.Reading.{input_mask}
use Rattle.aig_inputs.specs.Arranged.{is_inverted, variable_of, file_point}
use Rattle.aig_inputs.specs.Laws.{IsOnlyPoint, PointsAreArranged}
use Rattle.aig_inputs.proofs.Positions.{variable_within, position_back, variable_at, file_places}

-- ---- a weight in a number

weight_first : (t : Bool) (k m : ℕ) → m < 2 ^ k → divides (2 ^ k) (cond t (2 ^ k) 0 + m) ≡ t
weight_first true k m below = grind (arith, divides_both_high k 0 m, pow_pos k, divides_zero)
weight_first false k m below = grind (arith, weight_below k m)

weight_later : (t : Bool) (k j m : ℕ) → j < k → m < 2 ^ k → divides (2 ^ j) (cond t (2 ^ k) 0 + m) ≡ divides (2 ^ j) m
weight_later true k j m less below =
    let next : 2 ^ suc j ≤ 2 ^ k = pow_mono less in divides_high_point k (2 ^ j) m (omega (arith, twice j, pow_pos j)) below
weight_later false k j m less below = grind arith

weight_is_bit : (j a : ℕ) → divides (2 ^ j) a ≡ eqb (bit_at a j) 1
unfolding divides
weight_is_bit j a = ap (λ x. eqb x (2 ^ j)) (and_comm (2 ^ j) a ∙ and_pow a j) ∙ weight_bit j (bit_at a j) (bit_at-lt a j)

-- two numbers below 2 ^ n that have the same weights are the same
same_by_weights : (n a b : ℕ) → a < 2 ^ n → b < 2 ^ n → ((j : ℕ) → j < n → divides (2 ^ j) a ≡ divides (2 ^ j) b) → a ≡ b
same_by_weights n a b first second same = same_from_bits_below n a b first second (λ j less.
    let tests : eqb (bit_at a j) 1 ≡ eqb (bit_at b j) 1 = sym (weight_is_bit j a) ∙ same j less ∙ weight_is_bit j b in
    grind (arith, nat_tests, bit_at-lt a j, bit_at-lt b j))

-- ---- the weights in a mask

module _ (test : ℕ → Bool) where
  mask_below : (xs : List ℕ) (n : ℕ) → length xs ≡ n → input_mask test xs < 2 ^ n
  unfolding input_mask
  mask_below [] n len = rw (← len) (omega arith)
  mask_below (x ∷ xs) n len = rw (← len) (grind (arith, mask_below xs (length xs) refl, twice (length xs)))

  mask_weight : (xs : List ℕ) (i : ℕ) → i < length xs → divides (2 ^ (length xs - 1 - i)) (input_mask test xs) ≡ test (get_or xs i 0)
  unfolding input_mask
  mask_weight [] i less = absurd (omega arith)
  mask_weight (x ∷ xs) zero less = grind (arith, weight_first, mask_below xs (length xs))
  mask_weight (x ∷ xs) (suc i) less = grind (arith, weight_later, mask_below xs (length xs), mask_weight xs i)

-- ---- points

-- what is taken to its complement twice
twice_flipped : (inverted x : Bool) → exactly_one inverted (exactly_one inverted x) ≡ x
twice_flipped true true = refl
twice_flipped true false = refl
twice_flipped false x = refl

module _ (n : ℕ) (order : List ℕ) (inverted : List Bool) where
  -- the bit of an input in the point of the file
  abbrev input_bit : ℕ → ℕ → Bool
  input_bit point p = exactly_one (is_inverted inverted p) (divides (2 ^ (n - variable_of order p)) point)

  -- the point over the variables, and the bit of the variable of an input in it
  abbrev variable_bit : ℕ → ℕ → Bool
  variable_bit file p = exactly_one (is_inverted inverted p) (divides (2 ^ (n - p)) file)

  abbrev point_of : ℕ → ℕ
  point_of file = input_mask (variable_bit file) order

  pub file_below : (point : ℕ) → file_point n order inverted point < 2 ^ n
  unfolding file_point
  file_below point = mask_below (input_bit point) (file_order n) n (file_places n).0

  pub file_bit : (point p : ℕ) → 1 ≤ p → p ≤ n → divides (2 ^ (n - p)) (file_point n order inverted point) ≡ input_bit point p
  unfolding file_point
  file_bit point p some few =
      let count = (file_places n).0 in
      let weight : length (file_order n) - 1 - (p - 1) ≡ n - p = omega (arith, count) in
      rw (← weight) (mask_weight (input_bit point) (file_order n) (p - 1) (omega (arith, count))
      ∙ ap (input_bit point) ((file_places n).1 p 0 some few))

  module _ (is : IsOrder n order) where
    point_below : (file : ℕ) → point_of file < 2 ^ n
    point_below file = mask_below (variable_bit file) order n is.count

    -- in the point over the variables, variable v has the bit of its input, or the other one
    point_bit : (file v : ℕ) → 1 ≤ v → v ≤ n → divides (2 ^ (n - v)) (point_of file) ≡ variable_bit file (get_or order (v - 1) 0)
    point_bit file v some few =
        let weight : length order - 1 - (v - 1) ≡ n - v = omega (arith, is.count) in
        rw (← weight) (mask_weight (variable_bit file) order (v - 1) (omega (arith, is.count)))

    has_file : (file : ℕ) → file < 2 ^ n → file_point n order inverted (point_of file) ≡ file
    has_file file below = same_by_weights n _ file (file_below (point_of file)) below (λ j less.
        let p : ℕ = n - j in let some : 1 ≤ p = omega arith in let few : p ≤ n = omega arith in
        let v : ℕ = variable_of order p in let weight : n - p ≡ j = omega arith in
        let within = variable_within n order is p some few in
        let mine = point_bit file v within.0 within.1 ∙ ap (variable_bit file) (position_back n order is p some few 0) in
        rw (← weight) (file_bit (point_of file) p some few ∙ ap (exactly_one (is_inverted inverted p)) mine
        ∙ twice_flipped (is_inverted inverted p) (divides (2 ^ (n - p)) file)))

    point_back : (point : ℕ) → point < 2 ^ n → point_of (file_point n order inverted point) ≡ point
    point_back point below = same_by_weights n _ point (point_below (file_point n order inverted point)) below (λ j less.
        let v : ℕ = n - j in let some : 1 ≤ v = omega arith in let few : v ≤ n = omega arith in
        let p : ℕ = get_or order (v - 1) 0 in let weight : n - v ≡ j = omega arith in
        let position = is.positions (v - 1) 0 (omega (arith, is.count)) in
        let variable : variable_of order p ≡ v = omega (arith, variable_at n order (v - 1) 0 is (omega arith)) in
        let bit = file_bit point p position.0 position.1 in
        rw (← weight) (point_bit (file_point n order inverted point) v some few ∙ ap (exactly_one (is_inverted inverted p)) bit
        ∙ twice_flipped (is_inverted inverted p) (divides (2 ^ (n - variable_of order p)) point)
        ∙ ap (λ u. divides (2 ^ (n - u)) point) variable))

    only_point : (file : ℕ) → file < 2 ^ n → IsOnlyPoint n order inverted file (point_of file)
    only_point file below = record {
      below = point_below file;
      is = has_file file below;
      only = λ other less same. sym (point_back other less) ∙ ap point_of same;
    }

-- Each point has a point of the file, and each point of the file is that of exactly one point.
pub points_are_arranged : PointsAreArranged
points_are_arranged n order inverted is =
    (file_below n order inverted, λ file below. (point_of n order inverted file, only_point n order inverted is file below))
