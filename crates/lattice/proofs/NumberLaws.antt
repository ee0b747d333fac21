-- Laws of numbers, powers of two, bits and the answers of tests, in std's words alone.
use Rattle.std.proofs.Common.{◌≡◌, ℕ, zero, suc, ◌+◌, ◌-◌, ◌*◌, ◌%◌, ◌^◌, ◌<◌, ◌≤◌, max, Bool, true, false, ◌&&◌, ◌||◌, ◌↔◌, ◌==◌, ltb}
use Rattle.std.proofs.Common.{ap, subst, ⊎_elim, arith, lt-ltb, pow_pos}
use Rattle.std.proofs.lemmas.Bool.{cases_Bool, cases_lt}
use Rattle.std.proofs.lemmas.Grind.{pow_more}
use Rattle.std.proofs.lemmas.Nat.{one_shl}

-- What `1 << k` computes.
pub weight_is : (k : ℕ) → k < 64 → 1 * 2 ^ k % 18446744073709551616 ≡ 2 ^ k
weight_is k l = one_shl k 64 l

-- 2 ^ (d + 1) is twice 2 ^ d.
pub twice : (d : ℕ) → 2 ^ suc d ≡ 2 ^ d + 2 ^ d
twice d = omega arith

-- What is the same at one number more from d on is the same at n as at d.
pub steady : {X : Type 0} (G : ℕ → X) (d n : ℕ) → ((k : ℕ) → d ≤ k → G (suc k) ≡ G k) → d ≤ n → G n ≡ G d
steady G d zero more le = ap G (omega arith)
steady G d (suc n) more le = grind (arith, cases_lt d (suc n), more n, steady G d n more)

-- What holds of the numbers below 2 ^ d, and of them with 2 ^ d added, holds of the numbers below 2 ^ (d + 1).
pub by_halves : (P : ℕ → Type 0) (d : ℕ) → ((x : ℕ) → x < 2 ^ d → P x) → ((x : ℕ) → x < 2 ^ d → P (2 ^ d + x)) → (x : ℕ)
    → x < 2 ^ (d + 1) → P x
by_halves P d low high x below = ⊎_elim (low x) (λ most. let double = pow_more 2 d in
    let e : 2 ^ d + (x - 2 ^ d) ≡ x = omega arith in subst P e (high (x - 2 ^ d) (omega arith))) (cases_lt x (2 ^ d))

-- A bit of weight 2 ^ j is this weight where the bit is set.
pub weight_bit : (j b : ℕ) → b < 2 → (b * 2 ^ j == 2 ^ j) ≡ (b == 1)
weight_bit j zero small = grind (arith, pow_pos j)
weight_bit j (suc zero) small = grind arith
weight_bit j (suc (suc b)) small = absurd (omega (arith, small))

-- The greater of two bits is set where one of them is.
pub max_is_one : (a b : ℕ) → a < 2 → b < 2 → (max a b == 1) ≡ ((a == 1) || (b == 1))
max_is_one a b h k = grind (arith, h, k)

-- ---- the answers of tests

-- A test that fails from 2 ^ n on needs no further test of being below 2 ^ n.
pub only_below : (n x : ℕ) (b : Bool) → (2 ^ n ≤ x → b ≡ false) → (b && ltb x (2 ^ n)) ≡ b
only_below n x b above = grind (arith, lt-ltb x (2 ^ n))

-- Each number but 0 is above 0.
pub positive : (n : ℕ) → ltb 0 (suc n) ≡ true
positive n = lt-ltb 0 (suc n) (omega arith)

-- Two answers are the same where each is yes if the other is.
pub same_answer : (a b : Bool) → (a ≡ true) ↔ (b ≡ true) → a ≡ b
same_answer a b both = grind (arith, both.0, both.1)

-- One of three answers is yes where the second is.
pub or_second : (p q r : Bool) → q ≡ true → (p || q || r) ≡ true
or_second p q r h = grind (arith, cases_Bool, h)

-- One of three answers is yes where the third is.
pub or_third : (p q r : Bool) → r ≡ true → (p || q || r) ≡ true
or_third p q r h = grind (arith, cases_Bool, h)
