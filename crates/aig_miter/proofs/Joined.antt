-- The gates of a miter, one behind the other.
use Rattle.std.proofs.Common.{◌≡◌, ℕ, zero, suc, ◌+◌, ◌-◌, ◌*◌, ◌%◌, ◌≤◌, ◌<◌, inl, inr, ◌⊎◌, List, [], ◌∷◌, ◌++◌, length, get_or, map}
use Rattle.std.proofs.Common.{Some, refl, sym, ap, ◌∙◌, subst, arith}
use Rattle.std.specs.Prelude.{slice_get}
use Rattle.std.specs.List.{flat_map}
use Rattle.std.proofs.lemmas.Bool.{cases_lt, cases_eq}
use Rattle.std.proofs.lemmas.Bool.Decides.{nat_tests}
use Rattle.std.proofs.lemmas.Grind.{common_steps}
use Rattle.std.proofs.lemmas.List.{append-nil, length-append, length-map, map_push}
use Rattle.std.proofs.lemmas.List.Concat.{flat_map-append}
use Rattle.std.proofs.lemmas.Option.{slice_get_within, same_Some}
use Rattle.lattice.specs.Family.{numbers_below}
use Rattle.lattice.proofs.Polynomials.{length-numbers_below}
use Rattle.aig_reader.specs.declared.circuit.Gate.{Gate}
use Rattle.aig_reader.specs.Circuit.{Circuit}
use Rattle.aig_miter.specs.Miter.{moved_literal, complement_of, difference, difference_at, first_variable}

-- ---- lists one behind the other

pub get_left : {X : Type 0} (xs ys : List X) (k : ℕ) → k < length xs → slice_get (xs ++ ys) k ≡ slice_get xs k
get_left [] ys k less = absurd (omega arith)
get_left (x ∷ xs) ys zero less = refl
get_left (x ∷ xs) ys (suc k) less = get_left xs ys k (omega arith)

pub get_right : {X : Type 0} (xs ys : List X) (n k : ℕ) → n ≡ length xs + k → slice_get (xs ++ ys) n ≡ slice_get ys k
get_right [] ys n k e = ap (slice_get ys) (omega (arith, e))
get_right (x ∷ xs) ys zero k e = absurd (omega (arith, e))
get_right (x ∷ xs) ys (suc n) k e = get_right xs ys n k (omega (arith, e))

-- what stands in two lists stands in one of them
pub get_either : {X : Type 0} (xs ys : List X) (k : ℕ) (x : X) → slice_get (xs ++ ys) k ≡ Some x
    → ((k < length xs) × (slice_get xs k ≡ Some x)) ⊎ ((length xs ≤ k) × (slice_get ys (k - length xs) ≡ Some x))
get_either xs ys k x is = elim (cases_lt k (length xs)) [
  | inl less ↦ inl (less, sym (get_left xs ys k less) ∙ is)
  | inr more ↦ inr (more, sym (get_right xs ys k (k - length xs) (omega arith)) ∙ is)
]

-- ---- lists by numbers

-- the value for each number below n
pub mapped_at : {X : Type 0} (f : ℕ → X) (n i : ℕ) → i < n → slice_get (map f (numbers_below n)) i ≡ Some (f i)
unfolding numbers_below
mapped_at f zero i less = absurd (omega arith)
mapped_at f (suc n) i less =
    let before = map f (numbers_below n) in
    let long : length before ≡ n = length-map (numbers_below n) f ∙ length-numbers_below n in
    ap (λ xs. slice_get xs i) (map_push f (numbers_below n) n) ∙ elim (cases_lt i n) [
      | inl less ↦ get_left before (f n ∷ []) i (omega arith) ∙ mapped_at f n i less
      | inr last ↦
          let here : n ≡ i = omega arith in get_right before (f n ∷ []) i 0 (omega arith) ∙ ap (λ k. Some (f k)) here
    ]

pub flat_map_none : {X : Type 0} (f : ℕ → List X) → flat_map f (numbers_below 0) ≡ []
unfolding numbers_below
flat_map_none f = refl

pub flat_map_numbers : {X : Type 0} (f : ℕ → List X) (n : ℕ)
    → flat_map f (numbers_below (n + 1)) ≡ flat_map f (numbers_below n) ++ f n
unfolding numbers_below
flat_map_numbers f n =
    let next : n + 1 ≡ suc n = omega arith in
    ap (λ m. flat_map f (numbers_below m)) next ∙ flat_map-append f (numbers_below n) (n ∷ [])
    ∙ ap (λ xs. flat_map f (numbers_below n) ++ xs) (append-nil (f n))

pub map_none : {X : Type 0} (f : ℕ → X) → map f (numbers_below 0) ≡ []
unfolding numbers_below
map_none f = refl

pub map_numbers : {X : Type 0} (f : ℕ → X) (n : ℕ) → map f (numbers_below (n + 1)) ≡ map f (numbers_below n) ++ f n ∷ []
unfolding numbers_below
map_numbers f n =
    let next : n + 1 ≡ suc n = omega arith in ap (λ m. map f (numbers_below m)) next ∙ map_push f (numbers_below n) n

-- ---- the literals

pub complement_below : (literal m : ℕ) → literal < 2 * m → complement_of literal < 2 * m
unfolding complement_of
complement_below literal m less = grind (arith, nat_tests, cases_eq (literal % 2) 0)

pub moved_below : (inputs others literal m : ℕ) → literal < 2 * m → moved_literal inputs others literal < 2 * (m + others)
unfolding moved_literal
moved_below inputs others literal m less = grind (arith, nat_tests)

-- ---- three gates for each output

-- both operands are literals of variables below this one
pub record StandsBelow (v : ℕ) (g : Gate) : Type 0 where
  pub left : g.left < 2 * v
  pub right : g.right < 2 * v

difference_below : (v a b : ℕ) → a < 2 * v → b < 2 * v → (j : ℕ) (g : Gate) → slice_get (difference v a b) j ≡ Some g
    → StandsBelow (v + j) g
difference_below v a b first second zero g is =
    subst (StandsBelow (v + 0)) (same_Some _ _ is) (record { left = omega arith; right = omega arith })
difference_below v a b first second (suc zero) g is =
    subst (StandsBelow (v + 1)) (same_Some _ _ is)
    (record { left = omega (arith, complement_below a v first); right = omega (arith, complement_below b v second) })
difference_below v a b first second (suc (suc zero)) g is =
    subst (StandsBelow (v + 2)) (same_Some _ _ is) (record { left = omega arith; right = omega arith })
difference_below v a b first second (suc (suc (suc j))) g is = absurd cc

module _ (c d : Circuit) where
  abbrev pub differences : ℕ → List Gate
  differences n = flat_map (difference_at c d) (numbers_below n)

  one_more : (n : ℕ) → differences (suc n) ≡ differences n ++ difference_at c d n
  unfolding numbers_below
  one_more n = flat_map-append (difference_at c d) (numbers_below n) (n ∷ [])

  pub length-differences : (n : ℕ) → length (differences n) ≡ 3 * n
  unfolding numbers_below
  length-differences zero = refl
  length-differences (suc n) =
      omega (arith, ap length (one_more n), length-append (differences n) (difference_at c d n), length-differences n)

  -- gate j of those at position i
  pub difference_gate : (n i j : ℕ) (g : Gate) → i < n → slice_get (difference_at c d i) j ≡ Some g
      → slice_get (differences n) (3 * i + j) ≡ Some g
  difference_gate zero i j g less is = absurd (omega arith)
  difference_gate (suc n) i j g less is =
      let three : j < 3 = slice_get_within (difference_at c d i) j g is in
      ap (λ gates. slice_get gates (3 * i + j)) (one_more n) ∙ elim (cases_lt i n) [
        | inl before ↦
            get_left (differences n) (difference_at c d n) (3 * i + j) (omega (arith, length-differences n))
            ∙ difference_gate n i j g before is
        | inr last ↦
            let here : n ≡ i = omega arith in
            get_right (differences n) (difference_at c d n) (3 * i + j) j (omega (arith, length-differences n))
            ∙ ap (λ m. slice_get (difference_at c d m) j) here ∙ is
      ]

  -- each stands on what is before it
  pub differences_below : (n k : ℕ) (g : Gate) → ((i : ℕ) → i < n → StandsBelow (first_variable c d i) (record {
    left = get_or c.outputs i 0;
    right = moved_literal c.inputs (length c.gates) (get_or d.outputs i 0);
  }))
      → slice_get (differences n) k ≡ Some g → StandsBelow (first_variable c d 0 + k) g
  unfolding numbers_below
  differences_below zero k g outputs is = absurd cc
  differences_below (suc n) k g outputs is =
      elim (get_either (differences n) (difference_at c d n) k g (ap (λ gates. slice_get gates k) (sym (one_more n)) ∙ is)) [
        | inl before ↦ differences_below n k g (λ i less. outputs i (omega arith)) before.1
        | inr last ↦
            let own = outputs n (omega arith) in
            let place : first_variable c d n + (k - length (differences n)) ≡ first_variable c d 0 + k
            = omega (arith, last.0, length-differences n) in
            subst (λ v. StandsBelow v g) place
            (difference_below (first_variable c d n) _ _ own.left own.right (k - length (differences n)) g last.1)
      ]

pub ruleset number_steps = (common_steps, flat_map_none, flat_map_numbers, map_none, map_numbers)
