-- The probe path of a word: it comes to each place of the table, and to each once.
use Rattle.std.proofs.Common.{◌≡◌, ℕ, zero, suc, ◌+◌, ◌-◌, ◌*◌, ◌/◌, ◌%◌, ◌^◌, ◌<◌, ◌≤◌, sym, ap, ◌∙◌, subst, arith, mod-lt, pow_pos}
use Rattle.std.proofs.Common.{pow-add}
use Rattle.std.proofs.Math.Nat.{add-mul-mod_self_right, mod-eq_of_lt, div-add-mod'}
use mathlib.Core.Logic.{dite}
use native.Mathlib.Decide.{ℕ_discrete}
use Rattle.lattice.specs.declared.limits.TheConstants.{MIN_BITS, LINE}
use Rattle.lattice.specs.Words.{mixing, mixed, stride, line_at, place, ComesOnce}

-- ---- odd numbers

-- x is an inverse of the odd number 2 * s + 1 modulo p
record Inverts (s p x : ℕ) : Type 0 where
  more : ℕ
  is : (2 * s + 1) * x ≡ 1 + more * p

-- of x and x + p one inverts it modulo twice as much
inverts_twice : (s p x : ℕ) → Inverts s p x → (y : ℕ) × Inverts s (2 * p) y
inverts_twice s p x i = let q : ℕ = i.more in let h : ℕ = q / 2 in dite (ℕ_discrete (q % 2) 0)
    (λ even. let e : q ≡ 2 * h = omega arith in let is : (2 * s + 1) * x ≡ 1 + 2 * h * p = i.is ∙ ap (λ k. 1 + k * p) e in
    (x, record { more = h; is = omega (arith, is) }))
    (λ odd. let e : q ≡ 2 * h + 1 = omega arith in let is : (2 * s + 1) * x ≡ 1 + (2 * h + 1) * p = i.is ∙ ap (λ k. 1 + k * p) e in
    (x + p, record { more = h + s + 1; is = omega (arith, is) }))

-- An odd number has an inverse modulo each power of two.
odd_inverse : (s n : ℕ) → (x : ℕ) × Inverts s (2 ^ n) x
odd_inverse s zero = (1, record { more = 2 * s; is = omega arith })
odd_inverse s (suc n) = let t = odd_inverse s n in let twice : 2 * 2 ^ n ≡ 2 ^ suc n = omega arith in
    subst (λ p. (x : ℕ) × Inverts s p x) twice (inverts_twice s (2 ^ n) t.0 t.1)

-- ---- lines

-- one remainder where multiples make up the difference
one_remainder : (a b k m n : ℕ) → a + k * n ≡ b + m * n → a % n ≡ b % n
one_remainder a b k m n is = sym (add-mul-mod_self_right a k n) ∙ (ap (λ c. c % n) is ∙ add-mul-mod_self_right b m n)

-- The k-th line of a walk round n lines by a stride t is the line l: what that says of k, by an inverse x of t and a number a that
-- takes the start to the line.
module _ (n s x q a k first turns rest l : ℕ) (is : (2 * s + 1) * x ≡ 1 + q * n) (start : first ≡ turns * n + rest) (to : a + rest ≡ l + n)
  where
    reaches : (more : ℕ) → more * n + k ≡ a * x → first + k * (2 * s + 1) + more * (2 * s + 1) * n ≡ l + (turns + 1 + a * q) * n
    reaches more parts = omega (arith, ap (λ y. y * (2 * s + 1)) parts, ap (λ y. a * y) is)

    reached : (more : ℕ) → more * n + l ≡ first + k * (2 * s + 1) → a * x + more * x * n ≡ k + ((turns + 1) * x + k * q) * n
    reached more parts = let sum : a + more * n ≡ n + turns * n + k * (2 * s + 1) = omega (arith, parts, start, to) in
        omega (arith, ap (λ y. y * x) sum, ap (λ y. k * y) is)

-- a walk round n lines, from a first one by an odd stride
module _ (n first s x l : ℕ) (some : 0 < n) (i : Inverts s n x) (less : l < n) where
  -- the steps to the line l
  steps_to : ℕ
  steps_to = (l + (n - first % n)) * x % n

  lines_to : steps_to < n
  unfolding steps_to
  lines_to = mod-lt _ some

  comes_there : (first + steps_to * (2 * s + 1)) % n ≡ l
  unfolding steps_to
  comes_there = let a : ℕ = l + (n - first % n) in let small = mod-lt first some in
      one_remainder (first + a * x % n * (2 * s + 1)) l (a * x / n * (2 * s + 1)) (first / n + 1 + a * i.more) n
      (reaches n s x i.more a (a * x % n) first (first / n) (first % n) l i.is (sym (div-add-mod' first n)) (omega (arith, small))
      (a * x / n) (div-add-mod' (a * x) n))
      ∙ mod-eq_of_lt less

  comes_once : (k : ℕ) → k < n → (first + k * (2 * s + 1)) % n ≡ l → k ≡ steps_to
  unfolding steps_to
  comes_once k below there = let a : ℕ = l + (n - first % n) in let small = mod-lt first some in
      let sum : ℕ = first + k * (2 * s + 1) in
      let parts : sum / n * n + l ≡ sum = ap (λ r. sum / n * n + r) (sym there) ∙ div-add-mod' sum n in
      sym (one_remainder (a * x) k (sum / n * x) ((first / n + 1) * x + k * i.more) n
      (reached n s x i.more a k first (first / n) (first % n) l i.is (sym (div-add-mod' first n)) (omega (arith, small)) (sum / n) parts)
      ∙ mod-eq_of_lt below)

-- ---- places

-- The places of a table are its lines'.
pub slots_in_lines : (bits : ℕ) → MIN_BITS ≤ bits → 2 ^ bits ≡ 2 ^ (bits - 3) * LINE
slots_in_lines bits least = let sum : bits ≡ bits - 3 + 3 = omega arith in ap (λ k. 2 ^ k) sum ∙ pow-add 2 (bits - 3) 3

-- A place of a path is one of the table.
pub place_below : (bits w d : ℕ) → MIN_BITS ≤ bits → place bits w d < 2 ^ bits
unfolding place
place_below bits w d least =
    let whole = slots_in_lines bits least in let some : 0 < 2 ^ (bits - 3) = pow_pos (bits - 3) in
    let line : line_at bits w d < 2 ^ bits / LINE = mod-lt _ (omega (arith, whole, some)) in omega (arith, whole, line)

-- the line and the offset of a place
line_and_offset : (line offset at : ℕ) → offset < LINE → line * LINE + offset ≡ at → (line ≡ at / LINE) × (offset ≡ at % LINE)
line_and_offset line offset at small is = (omega arith, omega arith)

-- after so many lines, and so many places more, a walk that goes round each line comes to the offset
steps_at : ℕ → ℕ → ℕ → ℕ
steps_at start lines offset = lines * LINE + (offset + LINE - start % LINE) % LINE

module _ (start lines offset : ℕ) (small : offset < LINE) where
  steps_lines : steps_at start lines offset / LINE ≡ lines
  unfolding steps_at
  steps_lines = omega arith

  steps_offset : (start + steps_at start lines offset) % LINE ≡ offset
  unfolding steps_at
  steps_offset = omega arith

  steps_within : (slots : ℕ) → lines < slots → steps_at start lines offset < slots * LINE
  unfolding steps_at
  steps_within slots less = omega arith

  steps_only : (d : ℕ) → d / LINE ≡ lines → (start + d) % LINE ≡ offset → d ≡ steps_at start lines offset
  unfolding steps_at
  steps_only d turns there = omega arith

-- A path comes to each place of the table once.
pub path_is_whole : (bits w at : ℕ) → MIN_BITS ≤ bits → at < 2 ^ bits → ComesOnce bits w at
unfolding place
path_is_whole bits w at least less =
    let n : ℕ = 2 ^ (bits - 3) in let whole = slots_in_lines bits least in let count : 2 ^ bits / LINE ≡ n = omega (arith, whole) in
    let start : ℕ = mixed bits w in let first : ℕ = start / LINE in let s : ℕ = mixing w / 2 ^ 20 % 2 ^ 20 in
    let t = odd_inverse s (bits - 3) in let some : 0 < n = pow_pos (bits - 3) in
    let small : at % LINE < LINE = omega arith in let inside : at / LINE < n = omega (arith, whole) in
    let lines : ℕ = steps_to n first s t.0 (at / LINE) some t.1 inside in
    let reach : line_at bits w (steps_at start lines (at % LINE)) ≡ at / LINE =
    (λ i. (first + steps_lines start lines (at % LINE) small i * stride w) % count i)
    ∙ comes_there n first s t.0 (at / LINE) some t.1 inside in
    record {
      steps = steps_at start lines (at % LINE);
      within = subst (λ k. steps_at start lines (at % LINE) < k) (sym whole)
          (steps_within start lines (at % LINE) small n (lines_to n first s t.0 (at / LINE) some t.1 inside));
      there = (λ i. reach i * LINE + steps_offset start lines (at % LINE) small i) ∙ div-add-mod' at LINE;
      only = λ d below there. let parts = line_and_offset (line_at bits w d) ((start + d) % LINE) at (omega arith) there in
          let turns : d / LINE < n = omega (arith, whole) in
          steps_only start lines (at % LINE) small d (comes_once n first s t.0 (at / LINE) some t.1 inside (d / LINE) turns
          (ap (λ k. (first + d / LINE * stride w) % k) (sym count) ∙ parts.0)) parts.1;
    }
