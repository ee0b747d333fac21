-- That steps give the polynomials of their gates, and that what they need is found.
use Rattle.std.proofs.Common.{◌≡◌, ℕ, zero, suc, ◌+◌, ◌-◌, ◌*◌, ◌/◌, ◌%◌, ◌^◌, ◌<◌, ◌≤◌, Bool, true, false, not, ◌||◌, cond, ◌⊎◌, Option}
use Rattle.std.proofs.Common.{List, [], ◌∷◌, ◌++◌, map, length, get_or, append_assoc, refl, sym, ◌∙◌, ap, ap₂, subst, arith, Some, None}
use Rattle.std.proofs.Common.{inl, inr}
use Rattle.std.specs.Prelude.{slice_get, slice_set, replicate, ◌==◌, nat_lt}
use Rattle.std.proofs.Common.{drop, drop-cons}
use Rattle.std.proofs.lemmas.Grind.{replicate_next}
use Rattle.std.specs.List.{All, flat_map}
use Rattle.std.proofs.lemmas.Bool.{cases_Bool, cases_lt}
use Rattle.std.proofs.lemmas.Bool.Decides.{nat_tests}
use Rattle.std.proofs.lemmas.List.Folds.{list_any-append}
use Rattle.std.proofs.lemmas.List.{drop_all, get_or-map, length-map}
use Rattle.std.proofs.lemmas.List.Elements.{All-cons, All-head, All-nil, All-tail}
use Rattle.std.proofs.lemmas.Option.{slice_get-get_or}
use Rattle.lattice.specs.Words.{Family, IsFamily, exactly_one, product_of, sum_of, value}
use Rattle.lattice.proofs.Diagrams.{IsFamily-unit}
use Rattle.lattice.proofs.Polynomials.{IsFamily-combine, product_by_values, value-lt, value-one, value-sum}
use Rattle.node_store.specs.PlainLaws.{some_same}
use Rattle.bool_poly.proofs.OnesLemmas.{IsFamily-product_of, same_values}
use Rattle.aig_reader.specs.declared.circuit.Gate.{Gate}
use Rattle.aig_reader.specs.Circuit.{Circuit}
use Rattle.gate_build.specs.declared.steps.Choice.{Choice}
use Rattle.gate_build.specs.declared.steps.Step.{Step}
use Rattle.gate_build.specs.declared.steps.Step.TheVariants.{Skip, Xor, Mux}
use Rattle.gate_build.specs.Polynomials.{polynomial_of}
use Rattle.gate_build.specs.Steps.{complement_of, inner_gate, between_complements, choice_of, choice_between, step_by, step_of}
use Rattle.gate_build.specs.Steps.{AreMarked, literals_of, names, needed_steps, step_polynomial, steps_of}
use Rattle.gate_build.specs.Built.{is_found, is_skip}
use Rattle.gate_build.proofs.GateLemmas.{IsOrdered, IsFamily-polynomial_of, polynomial_of-gate, polynomial_of-odd, bit}

-- ---- complements

parity : (l : ℕ) → (l ≡ 2 * (l / 2)) ⊎ (l ≡ 2 * (l / 2) + 1)
parity l = elim (cases_lt (l % 2) 1) [ inl less ↦ inl (omega arith) | inr more ↦ inr (omega arith) ]

complement-even : (v : ℕ) → complement_of (2 * v) ≡ 2 * v + 1
unfolding complement_of
complement-even v = let even : (2 * v) % 2 ≡ 0 = omega arith in rw even

complement-odd : (v : ℕ) → complement_of (2 * v + 1) ≡ 2 * v
unfolding complement_of
complement-odd v = let odd : (2 * v + 1) % 2 ≡ 1 = omega arith in rw odd (omega arith)

complement-half : (l : ℕ) → complement_of l / 2 ≡ l / 2
complement-half l = elim (parity l) [
  | inl e ↦ let at = ap complement_of e ∙ complement-even (l / 2) in omega arith
  | inr e ↦ let at = ap complement_of e ∙ complement-odd (l / 2) in omega arith
]

-- ---- bits

bit_of : (x : ℕ) → x < 2 → (b : Bool) × (x ≡ bit b)
bit_of zero less = (false, refl)
bit_of (suc zero) less = (true, refl)
bit_of (suc (suc x)) less = absurd (omega arith)

mux_bits : (s a b : Bool) → (bit s * bit a + 1) % 2 * (((bit s + 1) % 2 * bit b + 1) % 2)
    ≡ ((bit b + 1) % 2 + bit s * (((bit a + 1) % 2 + (bit b + 1) % 2) % 2)) % 2
mux_bits true true true = refl
mux_bits true true false = refl
mux_bits true false true = refl
mux_bits true false false = refl
mux_bits false true true = refl
mux_bits false true false = refl
mux_bits false false true = refl
mux_bits false false false = refl

mux_numbers : (s a b : ℕ) → s < 2 → a < 2 → b < 2 → (s * a + 1) % 2 * (((s + 1) % 2 * b + 1) % 2)
    ≡ ((b + 1) % 2 + s * (((a + 1) % 2 + (b + 1) % 2) % 2)) % 2
mux_numbers s a b sl al bl = let x = bit_of s sl in let y = bit_of a al in let z = bit_of b bl in
    rw (x.1, y.1, z.1) (mux_bits x.0 y.0 z.0)

xor_bits : (s z : Bool) → (bit z + bit s * (((bit z + 1) % 2 + bit z) % 2)) % 2 ≡ (bit s + bit z) % 2
xor_bits true true = refl
xor_bits true false = refl
xor_bits false true = refl
xor_bits false false = refl

xor_numbers : (s o z : ℕ) → s < 2 → z < 2 → o ≡ (z + 1) % 2 → (z + s * ((o + z) % 2)) % 2 ≡ (s + z) % 2
xor_numbers s o z sl zl e = let x = bit_of s sl in let y = bit_of z zl in rw (e, x.1, y.1) (xor_bits x.0 y.0)

twice_other : (x y : ℕ) → x < 2 → y ≡ (x + 1) % 2 → x ≡ (y + 1) % 2
twice_other zero y l e = rw e
twice_other (suc zero) y l e = rw e
twice_other (suc (suc x)) y l e = absurd (omega arith)

-- ---- the gates of a choice

inner_is : (n : ℕ) (gates : List Gate) (l : ℕ) (u : Gate) → inner_gate n gates l ≡ Some u
    → (j : ℕ) × (l ≡ 2 * (n + 1 + j) + 1) × (slice_get gates j ≡ Some u)
unfolding inner_gate
inner_is n gates l u h = elim (cases_Bool (l % 2 == 0 || not (nat_lt n (l / 2)))) [
  | inl here ↦ let none = rw here at h in cc
  | inr other ↦
      let odd : l % 2 ≡ 1 = grind (arith, nat_tests, other) in let above : n < l / 2 = grind (arith, nat_tests, other) in
      (l / 2 - (n + 1), omega arith, rw other at h)
]

-- s is an operand of u beside a, and its complement one of w beside b
record Splits (u w : Gate) (s a b : ℕ) : Type 0 where
  first : ((u.left ≡ s) × (u.right ≡ a)) ⊎ ((u.right ≡ s) × (u.left ≡ a))
  second : ((w.left ≡ complement_of s) × (w.right ≡ b)) ⊎ ((w.right ≡ complement_of s) × (w.left ≡ b))

record IsChoice (u w : Gate) (c : Choice) : Type 0 where
  s : ℕ
  a : ℕ
  b : ℕ
  is : c ≡ between_complements s a b
  splits : Splits u w s a b

choice_is : (u w : Gate) (c : Choice) → choice_of u w ≡ Some c → IsChoice u w c
unfolding choice_of
choice_is u w c h = elim (cases_Bool (complement_of u.left == w.left)) [
  | inl e ↦ let here = rw e at h in
      record {
        s = u.left;
        a = u.right;
        b = w.right;
        is = sym (some_same here);
        splits = record {
          first = inl (refl, refl);
          second =
              inl (grind (arith, nat_tests, e), refl);
        };
      }
  | inr n ↦ let h1 = rw n at h in elim (cases_Bool (complement_of u.left == w.right)) [
    | inl e ↦ let here = rw e at h1 in
        record {
          s = u.left;
          a = u.right;
          b = w.left;
          is = sym (some_same here);
          splits = record {
            first = inl (refl, refl);
            second =
                inr (grind (arith, nat_tests, e), refl);
          };
        }
    | inr m ↦ let h2 = rw m at h1 in elim (cases_Bool (complement_of u.right == w.left)) [
      | inl e ↦ let here = rw e at h2 in
          record {
            s = u.right;
            a = u.left;
            b = w.right;
            is = sym (some_same here);
            splits = record {
              first = inr (refl, refl);
              second
                  = inl (grind (arith, nat_tests, e), refl);
            };
          }
      | inr k ↦ let h3 = rw k at h2 in elim (cases_Bool (complement_of u.right == w.right)) [
        | inl e ↦ let here = rw e at h3 in
            record {
              s = u.right;
              a = u.left;
              b = w.left;
              is = sym (some_same here);
              splits = record {
                first = inr (refl, refl);
                second
                    = inr (grind (arith, nat_tests, e), refl);
              };
            }
        | inr j ↦ let none = rw j at h3 in cc
      ]
    ]
  ]
]

record IsBetween (o p : Option Gate) (c : Choice) : Type 0 where
  u : Gate
  w : Gate
  u_is : o ≡ Some u
  w_is : p ≡ Some w
  choice : IsChoice u w c

between_is : (o p : Option Gate) (c : Choice) → choice_between o p ≡ Some c → IsBetween o p c
between_is (Some u) (Some w) c h = record { u = u; w = w; u_is = refl; w_is = refl; choice = choice_is u w c h }
between_is (Some u) None c h = cc
between_is None p c h = cc

-- ---- the values of a circuit at a point

module _ (c : Circuit) (is : IsOrdered c) where
  abbrev n : ℕ
  n = c.inputs

  module _ (point : ℕ) (less : point < 2 ^ c.inputs) where
    abbrev V : ℕ → ℕ
    V l = value (polynomial_of c l) point

    V-lt : (l : ℕ) → V l < 2
    V-lt l = value-lt (polynomial_of c l) point

    V-odd : (v : ℕ) → V (2 * v + 1) ≡ (V (2 * v) + 1) % 2
    V-odd v = ap (λ p. value p point) (polynomial_of-odd c v)
        ∙ (value-sum n n (polynomial_of c (2 * v)) (0 ∷ []) point (IsFamily-polynomial_of c (2 * v)) (IsFamily-unit n) (omega arith)
        ∙ ap (λ x. (V (2 * v) + x) % 2) (value-one point))

    V-complement : (l : ℕ) → V (complement_of l) ≡ (V l + 1) % 2
    V-complement l = elim (parity l) [
      | inl e ↦ let half = l / 2 in
          rw e (ap V (complement-even (l / 2)) ∙ V-odd (l / 2))
      | inr e ↦
          rw e (ap V (complement-odd (l / 2)) ∙ twice_other (V (2 * (l / 2))) (V (2 * (l / 2) + 1)) (V-lt (2 * (l / 2))) (V-odd (l / 2)))
    ]

    V-gate : (k : ℕ) (g : Gate) → slice_get c.gates k ≡ Some g → V (2 * (n + 1 + k)) ≡ V g.left * V g.right
    V-gate k g at = ap (λ p. value p point) (polynomial_of-gate c is k g at)
        ∙ product_by_values n (polynomial_of c g.left) (polynomial_of c g.right) point less

    V-inner : (l : ℕ) (u : Gate) → inner_gate n c.gates l ≡ Some u → V l ≡ (V u.left * V u.right + 1) % 2
    V-inner l u h = let at = inner_is n c.gates l u h in
        ap V at.1 ∙ (V-odd (n + 1 + at.0) ∙ ap (λ x. (x + 1) % 2) (V-gate at.0 u at.2))

    V-product : (u : Gate) (s a : ℕ) → ((u.left ≡ s) × (u.right ≡ a)) ⊎ ((u.right ≡ s) × (u.left ≡ a)) → V u.left * V u.right ≡ V s * V a
    V-product u s a (inl e) = ap₂ (λ (x y : ℕ). V x * V y) e.0 e.1
    V-product u s a (inr e) = ap₂ (λ (x y : ℕ). V x * V y) e.1 e.0 ∙ omega arith

    module _ (k : ℕ) (g : Gate) (at : slice_get c.gates k ≡ Some g) (ch : Choice)
        (by : IsBetween (inner_gate n c.gates g.left) (inner_gate n c.gates g.right) ch) where
      s : ℕ
      s = by.choice.s

      -- the gate's value is that of the choice
      V-mux : V (2 * (n + 1 + k)) ≡ (V ch.zero + V ch.select * ((V ch.one + V ch.zero) % 2)) % 2
      V-mux =
          let c1 = by.choice in
          let left = V-inner g.left by.u by.u_is ∙ ap (λ x. (x + 1) % 2) (V-product by.u c1.s c1.a c1.splits.first) in
          let right = V-inner g.right by.w by.w_is ∙ ap (λ x. (x + 1) % 2) (V-product by.w (complement_of c1.s) c1.b c1.splits.second
          ∙ ap (λ x. x * V c1.b) (V-complement c1.s)) in
          V-gate k g at ∙ (ap₂ (λ (x y : ℕ). x * y) left right
          ∙ (mux_numbers (V c1.s) (V c1.a) (V c1.b) (V-lt c1.s) (V-lt c1.a) (V-lt c1.b)
          ∙ rw (c1.is, V-complement c1.a, V-complement c1.b) refl))

  -- ---- a step gives the polynomial of its gate

  sum_is : (p q : Family) (point : ℕ) → IsFamily n p → IsFamily n q → value (sum_of n p q) point ≡ (value p point + value q point) % 2
  sum_is p q point pf qf = value-sum n n p q point pf qf (omega arith)

  chosen : (k : ℕ) (g : Gate) → slice_get c.gates k ≡ Some g → (ch : Choice)
      → IsBetween (inner_gate n c.gates g.left) (inner_gate n c.gates g.right) ch → (test : Bool) → (complement_of ch.one == ch.zero) ≡ test
      → step_polynomial n (polynomial_of c) (cond test (Xor (record { left = ch.select; right = ch.zero })) (Mux ch)) ≡ polynomial_of c
      (2 * (n + 1 + k))
  chosen k g at ch by true e =
      same_values n _ _ (IsFamily-combine exactly_one n (polynomial_of c ch.select) (polynomial_of c ch.zero)) (IsFamily-polynomial_of c _)
      (λ point less.
      let zero_is : ch.zero ≡ complement_of ch.one = grind (arith, nat_tests, e) in
      let other = twice_other (V point less ch.one) (V point less ch.zero) (V-lt point less ch.one)
      (ap (V point less) zero_is ∙ V-complement point less ch.one) in
      sum_is (polynomial_of c ch.select) (polynomial_of c ch.zero) point (IsFamily-polynomial_of c _) (IsFamily-polynomial_of c _)
      ∙ sym (V-mux point less k g at ch by
      ∙ xor_numbers (V point less ch.select) (V point less ch.one) (V point less ch.zero) (V-lt point less ch.select) (V-lt point less
      ch.zero) other))
  chosen k g at ch by false e =
      let differ = sum_of n (polynomial_of c ch.one) (polynomial_of c ch.zero) in
      let differ_fits = IsFamily-combine exactly_one n (polynomial_of c ch.one) (polynomial_of c ch.zero) in
      let times = product_of n (polynomial_of c ch.select) differ in
      same_values n _ _ (IsFamily-combine exactly_one n (polynomial_of c ch.zero) times) (IsFamily-polynomial_of c _)
      (λ point less. sum_is (polynomial_of c ch.zero) times point (IsFamily-polynomial_of c _) (IsFamily-product_of n _ _)
      ∙ (ap (λ x. (V point less ch.zero + x) % 2) (product_by_values n (polynomial_of c ch.select) differ point less
      ∙ ap (λ x. V point less ch.select * x) (sum_is (polynomial_of c ch.one) (polynomial_of c ch.zero) point (IsFamily-polynomial_of c
      _) (IsFamily-polynomial_of c _)))
      ∙ sym (V-mux point less k g at ch by)))

  by_step : (k : ℕ) (g : Gate) → slice_get c.gates k ≡ Some g → (o : Option Choice)
      → choice_between (inner_gate n c.gates g.left) (inner_gate n c.gates g.right) ≡ o
      → step_polynomial n (polynomial_of c) (step_by g o) ≡ polynomial_of c (2 * (n + 1 + k))
  by_step k g at None e = sym (polynomial_of-gate c is k g at)
  by_step k g at (Some ch) e = chosen k g at ch (between_is _ _ ch e) (complement_of ch.one == ch.zero) refl

  pub step_is : (k : ℕ) (g : Gate) → slice_get c.gates k ≡ Some g
      → step_polynomial n (polynomial_of c) (step_of n c.gates g) ≡ polynomial_of c (2 * (n + 1 + k))
  unfolding step_of
  step_is k g at = by_step k g at _ refl

  -- ---- a step stands on what is before its gate

  operands_below : (k : ℕ) (g : Gate) → slice_get c.gates k ≡ Some g → (g.left / 2 < n + 1 + k) × (g.right / 2 < n + 1 + k)
  operands_below k g at = (omega (arith, is.left k g at), omega (arith, is.right k g at))

  inner_below : (k l : ℕ) (u : Gate) → l / 2 < n + 1 + k → inner_gate n c.gates l ≡ Some u
      → (u.left / 2 < n + 1 + k) × (u.right / 2 < n + 1 + k)
  inner_below k l u less h = let at = inner_is n c.gates l u h in let both = operands_below at.0 u at.2 in
      (omega (arith, at.1), omega (arith, at.1))

  first_below : {m x y s a : ℕ} → x / 2 < m → y / 2 < m → ((x ≡ s) × (y ≡ a)) ⊎ ((y ≡ s) × (x ≡ a)) → (s / 2 < m) × (a / 2 < m)
  first_below {m} lx ly (inl e) = (subst (λ z. z / 2 < m) e.0 lx, subst (λ z. z / 2 < m) e.1 ly)
  first_below {m} lx ly (inr e) = (subst (λ z. z / 2 < m) e.0 ly, subst (λ z. z / 2 < m) e.1 lx)

  chosen_below : (k : ℕ) (g : Gate) → slice_get c.gates k ≡ Some g → (ch : Choice)
      → IsBetween (inner_gate n c.gates g.left) (inner_gate n c.gates g.right) ch
      → (ch.select / 2 < n + 1 + k) × (ch.one / 2 < n + 1 + k) × (ch.zero / 2 < n + 1 + k)
  chosen_below k g at ch by =
      let both = operands_below k g at in let c1 = by.choice in
      let u = inner_below k g.left by.u both.0 by.u_is in let w = inner_below k g.right by.w both.1 by.w_is in
      let p = first_below u.0 u.1 c1.splits.first in let q = first_below w.0 w.1 c1.splits.second in
      rw c1.is (p.0, rw (complement-half c1.a) p.1, rw (complement-half c1.b) q.1)

  two_below : (m x y : ℕ) → x / 2 < m → y / 2 < m → All (λ l. l / 2 < m) (x ∷ y ∷ [])
  two_below m x y p q = All-cons (λ l. l / 2 < m) x (y ∷ []) p (All-cons (λ l. l / 2 < m) y [] q (All-nil (λ l. l / 2 < m)))

  by_below : (k : ℕ) (g : Gate) → slice_get c.gates k ≡ Some g → (o : Option Choice)
      → choice_between (inner_gate n c.gates g.left) (inner_gate n c.gates g.right) ≡ o
      → All (λ l. l / 2 < n + 1 + k) (literals_of (step_by g o))
  by_below k g at None e = let both = operands_below k g at in two_below _ g.left g.right both.0 both.1
  by_below k g at (Some ch) e = let all = chosen_below k g at ch (between_is _ _ ch e) in
      elim (complement_of ch.one == ch.zero)
      as (λ t. All (λ l. l / 2 < n + 1 + k) (literals_of (cond t (Xor (record { left = ch.select; right = ch.zero })) (Mux ch)))) [
        | true ↦ two_below _ ch.select ch.zero all.0 all.2
        | false ↦ All-cons (λ l. l / 2 < n + 1 + k) ch.select (ch.one ∷ ch.zero ∷ []) all.0 (two_below _ ch.one ch.zero all.1 all.2)
      ]

  pub step_below : (k : ℕ) (g : Gate) → slice_get c.gates k ≡ Some g → All (λ l. l / 2 < n + 1 + k) (literals_of (step_of n c.gates g))
  unfolding step_of
  step_below k g at = by_below k g at _ refl

-- ---- which variables literals name

names-append : (xs ys : List ℕ) (v : ℕ) → names (xs ++ ys) v ≡ (names xs v || names ys v)
names-append xs ys v = list_any-append (λ l. l / 2 == v) xs ys

not_named : (ls : List ℕ) (v w : ℕ) → All (λ l. l / 2 < v) ls → v ≤ w → names ls w ≡ false
not_named [] v w all le = refl
not_named (l ∷ ls) v w all le = let rest = not_named ls v w (All-tail (λ l. l / 2 < v) l ls all) le in
    let here : l / 2 < v = All-head (λ l. l / 2 < v) l ls all in grind (arith, nat_tests, rest, here)

all_named : (front ls : List ℕ) → All (λ l. names (front ++ ls) (l / 2) ≡ true) ls
all_named front [] = All-nil (λ l. names (front ++ []) (l / 2) ≡ true)
all_named front (l ∷ ls) = All-cons (λ k. names (front ++ l ∷ ls) (k / 2) ≡ true) l ls
    (grind (arith, nat_tests, names-append front (l ∷ ls) (l / 2)))
    (subst (λ xs. All (λ k. names xs (k / 2) ≡ true) ls) (append_assoc front (l ∷ []) ls) (all_named (front ++ l ∷ []) ls))

-- the literals that steps and outputs need
abbrev pub needed : List Step → List ℕ → List ℕ
needed steps outputs = flat_map literals_of steps ++ outputs

named_in_steps : (steps : List Step) (outputs : List ℕ) (k v : ℕ) → k < length steps → names (literals_of (get_or steps k Skip)) v ≡ true
    → names (needed steps outputs) v ≡ true
named_in_steps [] outputs k v less h = absurd (omega arith)
named_in_steps (step ∷ steps) outputs zero v less h =
    grind (
      arith,
      names-append (flat_map literals_of (step ∷ steps)) outputs v,
      names-append (literals_of step) (flat_map literals_of
          steps) v,
    )
named_in_steps (step ∷ steps) outputs (suc k) v less h =
    let again = named_in_steps steps outputs k v (omega arith) h in
    grind (
      arith,
      again,
      names-append (flat_map literals_of (step ∷ steps)) outputs v,
      names-append (literals_of step) (flat_map literals_of steps) v,
      names-append (flat_map literals_of steps) outputs v,
    )

-- ---- which steps are kept

pub length-needed_steps : (v : ℕ) (outputs : List ℕ) (steps : List Step) → length (needed_steps v outputs steps) ≡ length steps
unfolding needed_steps
length-needed_steps v outputs [] = refl
length-needed_steps v outputs (step ∷ steps) = ap suc (length-needed_steps (v + 1) outputs steps)

-- a step stays, or is skipped
pub kept_or_skipped : (v : ℕ) (outputs : List ℕ) (steps : List Step) (i : ℕ)
    → (get_or (needed_steps v outputs steps) i Skip ≡ get_or steps i Skip)
    ⊎ (get_or (needed_steps v outputs steps) i Skip ≡ Skip)
unfolding needed_steps
kept_or_skipped v outputs [] i = inl refl
kept_or_skipped v outputs (step ∷ steps) zero =
    elim (names (needed (needed_steps (v + 1) outputs steps) outputs) v) as (λ t. (cond t step Skip ≡ step) ⊎ (cond t step Skip ≡ Skip)) [
      | true ↦ inl refl
      | false ↦ inr refl
    ]
kept_or_skipped v outputs (step ∷ steps) (suc i) = kept_or_skipped (v + 1) outputs steps i

kept_below : (P : Step → Type 0) (step : Step) (t : Bool) → P step → P Skip → P (cond t step Skip)
kept_below P step true p q = p
kept_below P step false p q = q

-- each step stands on variables before its own
abbrev pub AreOrdered : ℕ → List Step → Type 0
AreOrdered v steps = (i : ℕ) → i < length steps → All (λ l. l / 2 < v + i) (literals_of (get_or steps i Skip))

named_later : (v : ℕ) (outputs : List ℕ) (step : Step) (steps : List Step) → AreOrdered v (step ∷ steps) → (i : ℕ)
    → names (needed (needed_steps v outputs (step ∷ steps)) outputs) (v + i) ≡ true
    → names (needed (needed_steps (v + 1) outputs steps) outputs) (v + i) ≡ true
unfolding needed_steps
named_later v outputs step steps below i h =
    let later = needed_steps (v + 1) outputs steps in
    let first = cond (names (needed later outputs) v) step Skip in
    let here : v + 0 ≡ v = omega arith in
    let low' : All (λ l. l / 2 < v) (literals_of first) =
    kept_below (λ x. All (λ l. l / 2 < v) (literals_of x)) step (names (needed later outputs) v)
    (subst (λ w. All (λ l. l / 2 < w) (literals_of step)) here (below 0 (omega arith))) (All-nil (λ l. l / 2 < v)) in
    let split = names-append (literals_of first) (flat_map literals_of later) (v + i) in
    let whole = names-append (literals_of first ++ flat_map literals_of later) outputs (v + i) in
    let rest = names-append (flat_map literals_of later) outputs (v + i) in
    let out = not_named (literals_of first) v (v + i) low' (omega arith) in
    grind (arith, split, whole, rest, out, h)

-- a step of a variable that is named stays
pub kept_where_named : (v : ℕ) (outputs : List ℕ) (steps : List Step) → AreOrdered v steps → (i : ℕ) → i < length steps
    → names (needed (needed_steps v outputs steps) outputs) (v + i) ≡ true
    → get_or (needed_steps v outputs steps) i Skip ≡ get_or steps i Skip
unfolding needed_steps
kept_where_named v outputs [] below i less h = absurd (omega arith)
kept_where_named v outputs (step ∷ steps) below zero less h =
    let here : v + 0 ≡ v = omega arith in
    let named = rw here at (named_later v outputs step steps below 0 h) in rw named refl
kept_where_named v outputs (step ∷ steps) below (suc i) less h =
    let place : v + suc i ≡ v + 1 + i = omega arith in
    kept_where_named (v + 1) outputs steps
    (λ j l. subst (λ w. All (λ l. l / 2 < w) (literals_of (get_or steps j Skip))) (omega arith) (below (suc j) (omega arith))) i (omega
    arith)
    (rw place at (named_later v outputs step steps below (suc i) h))

-- ---- the steps of a circuit

abbrev pub no_gate : Gate
no_gate = record { left = 0; right = 0 }

by_not_skip : (g : Gate) (o : Option Choice) → is_skip (step_by g o) ≡ false
by_not_skip g None = refl
by_not_skip g (Some ch) = elim (complement_of ch.one == ch.zero)
    as (λ t. is_skip (cond t (Xor (record { left = ch.select; right = ch.zero })) (Mux ch)) ≡ false) [ true ↦ refl | false ↦ refl ]

not_skip : (n : ℕ) (gates : List Gate) (g : Gate) → is_skip (step_of n gates g) ≡ false
unfolding step_of
not_skip n gates g = by_not_skip g _

module _ (c : Circuit) where
  abbrev pub all_steps : List Step
  all_steps = map (step_of c.inputs c.gates) c.gates

  pub length-all : length all_steps ≡ length c.gates
  length-all = length-map c.gates (step_of c.inputs c.gates)

  pub length-steps_of : length (steps_of c) ≡ length c.gates
  unfolding steps_of
  length-steps_of = length-needed_steps (c.inputs + 1) c.outputs all_steps ∙ length-all

  pub all_at : (k : ℕ) → k < length c.gates → get_or all_steps k Skip ≡ step_of c.inputs c.gates (get_or c.gates k no_gate)
  all_at k less = get_or-map (step_of c.inputs c.gates) c.gates k no_gate Skip less

  steps_at : (k : ℕ) → (get_or (steps_of c) k Skip ≡ get_or all_steps k Skip) ⊎ (get_or (steps_of c) k Skip ≡ Skip)
  unfolding steps_of
  steps_at k = kept_or_skipped (c.inputs + 1) c.outputs all_steps k

  module _ (is : IsOrdered c) where
    ordered : AreOrdered (c.inputs + 1) all_steps
    ordered k less =
        let within : k < length c.gates = omega (arith, length-all) in
        rw (all_at k within) (step_below c is k (get_or c.gates k no_gate) (slice_get-get_or c.gates k no_gate within))

    -- a step that is not skipped gives its gate's polynomial
    pub kept_is : (k : ℕ) → k < length c.gates → is_skip (get_or (steps_of c) k Skip) ≡ false
        → step_polynomial c.inputs (polynomial_of c) (get_or (steps_of c) k Skip) ≡ polynomial_of c (2 * (c.inputs + 1 + k))
    kept_is k less kept = elim (steps_at k) [
      | inl e ↦ ap (step_polynomial c.inputs (polynomial_of c)) (e ∙ all_at k less)
          ∙ step_is c is k (get_or c.gates k no_gate) (slice_get-get_or c.gates k no_gate less)
      | inr e ↦ let skipped = rw e at kept in cc
    ]

    -- what is named is found
    named_found : (v : ℕ) → v < c.inputs + 1 + length c.gates → names (needed (steps_of c) c.outputs) v ≡ true → is_found c v ≡ true
    unfolding steps_of
    named_found v less named = elim (cases_lt c.inputs v) [
      | inl above ↦
          let k = v - (c.inputs + 1) in let place : c.inputs + 1 + k ≡ v = omega arith in
          let within : k < length c.gates = omega arith in
          let kept = kept_where_named (c.inputs + 1) c.outputs all_steps ordered k (omega (arith, length-all)) (rw place named) in
          let found : is_skip (get_or (steps_of c) k Skip) ≡ false = ap is_skip (kept ∙ all_at k within)
          ∙ not_skip c.inputs c.gates (get_or c.gates k no_gate) in grind (arith, nat_tests, found)
      | inr few ↦ grind (arith, nat_tests, few)
    ]

    step_literals : (k : ℕ) → k < length c.gates → All (λ l. l / 2 < c.inputs + 1 + k) (literals_of (get_or (steps_of c) k Skip))
    step_literals k less = elim (steps_at k) [
      | inl e ↦ rw e (ordered k (omega (arith, length-all)))
      | inr e ↦ rw e (All-nil (λ l. l / 2 < c.inputs + 1 + k))
    ]

    -- the literals that a step needs are found before it
    pub step_finds : (k : ℕ) → k < length c.gates
        → All (λ l. (l / 2 < c.inputs + 1 + k) × (is_found c (l / 2) ≡ true)) (literals_of (get_or (steps_of c) k Skip))
    step_finds k less i d in' =
        let low' = step_literals k less i d in' in
        let own = all_named [] (literals_of (get_or (steps_of c) k Skip)) i d in' in
        (low', named_found _ (omega (arith, low')) (named_in_steps (steps_of c) c.outputs k _ (omega (arith, length-steps_of)) own))

    -- and so are those of the outputs
    pub outputs_find : All (λ l. (l / 2 < c.inputs + 1 + length c.gates) × (is_found c (l / 2) ≡ true)) c.outputs
    outputs_find i d in' =
        let low' : get_or c.outputs i d / 2 < c.inputs + 1 + length c.gates = omega (arith, is.literals i d in') in
        (low', named_found _ low' (all_named (flat_map literals_of (steps_of c)) c.outputs i d in'))

-- ---- the loop that keeps the needed steps

pub none_needed : (v : ℕ) (outputs : List ℕ) (steps : List Step) (m : ℕ) → length steps ≤ m → needed_steps v outputs (drop m steps) ≡ []
unfolding needed_steps
none_needed v outputs steps m le = ap (needed_steps v outputs) (drop_all m steps le)

set_skipped : (i : ℕ) (later : List Step) (step : Step) → slice_set (replicate i Skip ++ Skip ∷ later) i step ≡ replicate i Skip ++
    step ∷ later
set_skipped zero later step = refl
set_skipped (suc i) later step = ap (λ xs. Skip ∷ xs) (set_skipped i later step)

one_more_skip : (i : ℕ) (later : List Step) → replicate (i + 1) Skip ++ later ≡ replicate i Skip ++ Skip ∷ later
one_more_skip i later = ap (λ (xs : List Step). xs ++ later) (replicate_next i Skip) ∙ append_assoc (replicate i Skip) (Skip ∷ []) later

module _ (v : ℕ) (outputs : List ℕ) (steps : List Step) (i : ℕ) (less : i < length steps) where
  abbrev pub later : List Step
  later = needed_steps (v + (i + 1)) outputs (drop (i + 1) steps)

  abbrev pub from_here : List Step
  from_here = needed_steps (v + i) outputs (drop i steps)

  next_is : from_here ≡ cond (names (needed later outputs) (v + i)) (get_or steps i Skip) Skip ∷ later
  unfolding needed_steps
  next_is =
      let place : v + i + 1 ≡ v + (i + 1) = omega arith in let one : suc i ≡ i + 1 = omega arith in
      ap (needed_steps (v + i) outputs) (drop-cons steps i Skip less ∙ ap (λ j. get_or steps i Skip ∷ drop j steps) one)
      ∙ ap (λ w. cond (names (needed (needed_steps w outputs (drop (i + 1) steps)) outputs) (v + i)) (get_or steps i Skip) Skip
      ∷ needed_steps w outputs (drop (i + 1) steps)) place

  next_kept : names (needed later outputs) (v + i) ≡ true → from_here ≡ get_or steps i Skip ∷ later
  next_kept named = next_is ∙ ap (λ b. cond b (get_or steps i Skip) Skip ∷ later) named

  next_skipped : names (needed later outputs) (v + i) ≡ false → from_here ≡ Skip ∷ later
  next_skipped named = next_is ∙ ap (λ b. cond b (get_or steps i Skip) Skip ∷ later) named

  pub kept_steps : (list : List Step) → list ≡ replicate (i + 1) Skip ++ later → names (needed later outputs) (v + i) ≡ true
      → slice_set list i (get_or steps i Skip) ≡ replicate i Skip ++ from_here
  kept_steps list is named = ap (λ xs. slice_set xs i (get_or steps i Skip)) (is ∙ one_more_skip i later)
      ∙ (set_skipped i later (get_or steps i Skip) ∙ ap (λ (xs : List Step). replicate i Skip ++ xs) (sym (next_kept named)))

  pub skipped_steps : (list : List Step) → list ≡ replicate (i + 1) Skip ++ later → names (needed later outputs) (v + i) ≡ false
      → list ≡ replicate i Skip ++ from_here
  skipped_steps list is named = is ∙ (one_more_skip i later ∙ ap (λ (xs : List Step). replicate i Skip ++ xs) (sym (next_skipped named)))

  pub kept_marks : (marks after : List Bool) → AreMarked marks (needed later outputs) → names (needed later outputs) (v + i) ≡ true
      → ((w : ℕ) → get_or after w false ≡ (names (literals_of (get_or steps i Skip)) w || get_or marks w false))
      → AreMarked after (needed from_here outputs)
  kept_marks marks after before named more w =
      let step = get_or steps i Skip in
      more w ∙ (ap (λ b. names (literals_of step) w || b) (before w)
      ∙ (sym (names-append (literals_of step) (needed later outputs) w)
      ∙ ap (λ (ls : List ℕ). names ls w) (sym (append_assoc (literals_of step) (flat_map literals_of later) outputs)
      ∙ ap (λ xs. needed xs outputs) (sym (next_kept named)))))

  pub skipped_marks : (marks : List Bool) → AreMarked marks (needed later outputs) → names (needed later outputs) (v + i) ≡ false
      → AreMarked marks (needed from_here outputs)
  skipped_marks marks before named w = before w ∙ ap (λ xs. names (needed xs outputs) w) (sym (next_skipped named))
