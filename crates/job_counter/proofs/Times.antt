-- How often numbers are among others.
use Rattle.std.proofs.Common.{◌≡◌, ℕ, zero, suc, ◌+◌, ◌≤◌, ◌⊎◌, inl, inr, List, [], ◌∷◌, ◌++◌, length, refl, arith}
use Rattle.std.specs.Prelude.{◌==◌, cond}
use Rattle.std.specs.List.{Contains}
use Rattle.std.proofs.lemmas.Bool.Decides.{nat_tests}
use Rattle.std.proofs.lemmas.List.Elements.{Contains-append_right}
use Rattle.std.proofs.lemmas.List.Sums.{sum_by-cons, sum_by-append}
use Rattle.lattice.proofs.Polynomials.{contains_cases}
use Rattle.job_counter.specs.Numbers.{times, once_below}

-- how often a number is among two lists of numbers
pub times-append : (x : ℕ) (xs ys : List ℕ) → times x (xs ++ ys) ≡ times x xs + times x ys
times-append x xs ys = sum_by-append _ xs ys

-- one number more is this one or another
times-cons : (x y : ℕ) (ys : List ℕ) → ((y ≡ x) × (times x (y ∷ ys) ≡ times x ys + 1)) ⊎ (times x (y ∷ ys) ≡ times x ys)
times-cons x y ys = grind (arith, nat_tests, sum_by-cons (λ (n : ℕ). cond (n == x) 1 0) y ys)

-- what is counted is there
pub times_some : (x : ℕ) (ys : List ℕ) → 1 ≤ times x ys → Contains ys x
times_some x [] some = absurd (omega (arith, some))
times_some x (y ∷ ys) some = elim (times-cons x y ys) [
  | inl e ↦ (0, omega arith, e.0)
  | inr ne ↦ Contains-append_right (y ∷ []) ys x (times_some x ys (omega (arith, some, ne)))
]

-- what is there is counted
pub some_times : (x : ℕ) (ys : List ℕ) → Contains ys x → 1 ≤ times x ys
some_times x [] i = absurd (omega (arith, i.1))
some_times x (y ∷ ys) i = elim (contains_cases x y ys i) [
  | inl e ↦ grind (arith, nat_tests, sum_by-cons (λ (n : ℕ). cond (n == x) 1 0) y ys)
  | inr j ↦ grind (arith, times-cons x y ys, some_times x ys j)
]

-- the numbers below the next one
pub once_more : (x n : ℕ) → once_below x n + times x (n ∷ []) ≡ once_below x (n + 1)
once_more x n = grind (arith, nat_tests)

-- ---- the pigeonhole

-- the numbers below n among others
below : ℕ → List ℕ → ℕ
below zero ys = 0
below (suc n) ys = below n ys + times n ys

below-cons : (n y : ℕ) (ys : List ℕ) → below n (y ∷ ys) ≡ below n ys + once_below y n
unfolding below
below-cons zero y ys = grind (arith, nat_tests)
below-cons (suc n) y ys = grind (arith, nat_tests, below-cons n y ys, sum_by-cons (λ (m : ℕ). cond (m == n) 1 0) y ys)

all_below : (n : ℕ) (ys : List ℕ) → ((x : ℕ) → times x ys ≤ once_below x n) → length ys ≤ below n ys
all_below n [] once = omega arith
all_below n (y ∷ ys) once =
    let rest = all_below n ys (λ x. grind (arith, once x, times-cons x y ys)) in
    omega (arith, rest, below-cons n y ys, once y, some_times y (y ∷ ys) (0, omega arith, refl))

few_below : (n : ℕ) (ys : List ℕ) → ((x : ℕ) → times x ys ≤ 1) → below n ys ≤ n
unfolding below
few_below zero ys once = omega arith
few_below (suc n) ys once = omega (arith, few_below n ys once, once n)

-- numbers below n, each of them at most once, are n at most
pub pigeonhole : (n : ℕ) (ys : List ℕ) → ((x : ℕ) → times x ys ≤ once_below x n) → length ys ≤ n
pigeonhole n ys once = omega (arith, all_below n ys once, few_below n ys (λ x. grind (arith, nat_tests, once x)))
