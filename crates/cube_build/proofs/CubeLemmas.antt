-- A cube cut at its first variable, by the row's bits at this variable, and a cube that is built from the last variable on.
use Rattle.std.proofs.Common.{◌≡◌, ◌≢◌, ℕ, zero, suc, ◌+◌, ◌*◌, ◌%◌, ◌^◌, ◌<◌, ◌≤◌, ◌==◌, true, cond, [], ◌∷◌, bit_and, sym, ◌∙◌, ap, subst}
use Rattle.std.proofs.Common.{arith, add-one, eqb-true, eq-eqb, ne_eqb, mod-eq_of_lt, ⊎_elim, ◌-◌, Ok, Some}
use Rattle.std.specs.Int.{bit_at}
use Rattle.std.proofs.lemmas.Nat.{and_block, and_le_l, and_le_r, and_comm, shr_split, mod_below, mod-pow-add, pow_pos, one_shl}
use Rattle.std.proofs.lemmas.Nat.Bits.{and_pow, bit_at_and, bit_at-lt, shr_and_one}
use Rattle.std.proofs.lemmas.Grind.{pow_more}
use Rattle.std.proofs.lemmas.Bool.{cases_eq}
use Rattle.lattice.specs.Words.{Family, IsFamily, has, family_where, numbers_below, divides, Has, Covers, join, low_cofactor, high_cofactor}
use Rattle.lattice.specs.Words.{sub, cube, in_cube}
use Rattle.lattice.specs.declared.row.Row.{Row}
use Rattle.lattice.proofs.Diagrams.{join_cofactors_suc, sub-narrow, sub-low_cofactor, sub-high_cofactor}
use Rattle.lattice.proofs.Polynomials.{IsFamily-family_where, has-family_where_below, family_where-agree, family_where-none}
use Rattle.lattice.proofs.Polynomials.{IsFamily-low_cofactor, IsFamily-high_cofactor}
use Rattle.cube_build.specs.PartialCubes.{cube_behind}
use Rattle.node_store.specs.Stores.{State, Denotes, IsSound, IsPlanned, Builds}
use Rattle.node_store.specs.declared.store.Handle.{Handle}
use Rattle.node_store.proofs.StoreLaws.{Builds-known, Gives-reads, MayGrow}

-- ---- numbers by their bit k and what is below it

rest_below : (k n : ℕ) → n % 2 ^ k < 2 ^ k
rest_below k n = mod_below n (2 ^ k) (pow_pos k)

rest_and_bit : (k n : ℕ) → n % 2 ^ (k + 1) ≡ bit_at n k * 2 ^ k + n % 2 ^ k
rest_and_bit k n = let e : k + 1 ≡ 1 + k = omega arith in ap (λ (i : ℕ). n % 2 ^ i) e ∙ mod-pow-add n 1 k

-- the bits of 2 ^ k + a under a mask
and_with_bit : (k a m : ℕ) → a < 2 ^ k → bit_and (2 ^ k + a) m ≡ bit_at m k * 2 ^ k + bit_and a m
and_with_bit k a m b =
    let high : 2 ^ k + a ≡ 1 * 2 ^ k + a = omega arith in let low : a ≡ 0 * 2 ^ k + a = omega arith in
    grind (arith, rest_below, shr_split, and_block, and_comm, shr_and_one)

-- `m & (1 << k)` is 0 where bit k is
pub bit_absent : (k m : ℕ) → k < 64 → bit_and m (1 * 2 ^ k % 2 ^ 64) ≡ 0 → bit_at m k ≡ 0
bit_absent k m small none = grind (arith, pow_pos k, and_pow m k, one_shl k 64 small, bit_at-lt m k)

pub bit_present : (k m : ℕ) → k < 64 → (bit_and m (1 * 2 ^ k % 2 ^ 64) ≡ 0 → ⊥) → bit_at m k ≡ 1
bit_present k m small some = grind (arith, bit_at-lt m k, one_shl k 64 small, and_pow m k)

-- a value within care has no bit that care has not
pub value_absent : (k : ℕ) (r : Row) → divides r.value r.care ≡ true → bit_at r.care k ≡ 0 → bit_at r.value k ≡ 0
unfolding divides
value_absent k r within none = grind (arith, eqb-true, bit_at_and)

value_present : (k : ℕ) (r : Row) → divides r.value r.care ≡ true → bit_at r.value k ≢ 0 → bit_at r.care k ≡ bit_at r.value k
unfolding divides
value_present k r within some = grind (arith, eqb-true, bit_at_and, bit_at-lt)

-- ---- the cofactors of a cube

eqb-add : (c x y : ℕ) → (c + x == c + y) ≡ (x == y)
eqb-add c x y = grind (arith, eq-eqb, ne_eqb, cases_eq)

module _ (k : ℕ) (r : Row) where
  whole : Family
  whole = cube_behind (k + 1) r

  pub IsFamily-cube_behind : IsFamily k (cube_behind k r)
  unfolding cube_behind
  IsFamily-cube_behind = IsFamily-family_where k (λ a. bit_and a r.care == r.value % 2 ^ k)

  in_whole : (a : ℕ) → a < 2 ^ (k + 1) → has whole a ≡ (bit_and a r.care == bit_at r.value k * 2 ^ k + r.value % 2 ^ k)
  unfolding cube_behind whole
  in_whole a b = simp (has-family_where_below, rest_and_bit)

  in_low : (a : ℕ) → a < 2 ^ k → has whole a ≡ (bit_and a r.care == bit_at r.value k * 2 ^ k + r.value % 2 ^ k)
  in_low a b = in_whole a (omega (arith, pow_more 2 k))

  in_high : (a : ℕ) → a < 2 ^ k
      → has whole (2 ^ k + a) ≡ (bit_at r.care k * 2 ^ k + bit_and a r.care == bit_at r.value k * 2 ^ k + r.value % 2 ^ k)
  in_high a b =
      in_whole (2 ^ k + a) (omega (arith, pow_more 2 k))
      ∙ ap (λ (v : ℕ). v == bit_at r.value k * 2 ^ k + r.value % 2 ^ k) (and_with_bit k a r.care b)

  -- a variable that is free or fixed to 0 leaves the rest without it
  pub low_rest : bit_at r.value k ≡ 0 → low_cofactor k (cube_behind (k + 1) r) ≡ cube_behind k r
  unfolding cube_behind low_cofactor whole
  low_rest none =
      let same : bit_at r.value k * 2 ^ k + r.value % 2 ^ k ≡ r.value % 2 ^ k = ap (λ (b : ℕ). b * 2 ^ k + r.value % 2 ^ k) none
      ∙ omega arith in
      family_where-agree k (has (cube_behind (k + 1) r)) (λ a. bit_and a r.care == r.value % 2 ^ k) (λ a b. in_low a b
      ∙ ap (λ (v : ℕ). bit_and a r.care == v) same)

  -- a variable fixed to 1 leaves nothing without it
  pub low_none : bit_at r.value k ≡ 1 → low_cofactor k (cube_behind (k + 1) r) ≡ []
  unfolding low_cofactor whole
  low_none one =
      let above : bit_at r.value k * 2 ^ k + r.value % 2 ^ k ≡ 2 ^ k + r.value % 2 ^ k = ap (λ (b : ℕ). b * 2 ^ k + r.value % 2 ^ k) one
      ∙ omega arith in
      family_where-none k (has (cube_behind (k + 1) r))
      (λ a b.
      let few : bit_and a r.care ≤ a = and_le_l a r.care in
      in_low a b ∙ ne_eqb (bit_and a r.care) (bit_at r.value k * 2 ^ k + r.value % 2 ^ k) (λ e. omega (arith, e, above)))

  -- a variable that is free or fixed to 1 leaves the rest with it
  pub high_rest : bit_at r.care k ≡ bit_at r.value k → high_cofactor k (cube_behind (k + 1) r) ≡ cube_behind k r
  unfolding cube_behind high_cofactor whole
  high_rest alike =
      family_where-agree k (λ a. has (cube_behind (k + 1) r) (2 ^ k + a)) (λ a. bit_and a r.care == r.value % 2 ^ k)
      (λ a b. in_high a b ∙ (ap (λ (c : ℕ). c * 2 ^ k + bit_and a r.care == bit_at r.value k * 2 ^ k + r.value % 2 ^ k) alike
      ∙ eqb-add (bit_at r.value k * 2 ^ k) (bit_and a r.care) (r.value % 2 ^ k)))

  -- a variable fixed to 0 leaves nothing with it
  pub high_none : bit_at r.care k ≡ 1 → bit_at r.value k ≡ 0 → high_cofactor k (cube_behind (k + 1) r) ≡ []
  unfolding high_cofactor whole
  high_none one none =
      let low : bit_at r.value k * 2 ^ k + r.value % 2 ^ k ≡ r.value % 2 ^ k = ap (λ (b : ℕ). b * 2 ^ k + r.value % 2 ^ k) none
      ∙ omega arith in
      let few : r.value % 2 ^ k < 2 ^ k = rest_below k r.value in
      family_where-none k (λ a. has (cube_behind (k + 1) r) (2 ^ k + a))
      (λ a b.
      let high : bit_at r.care k * 2 ^ k + bit_and a r.care ≡ 2 ^ k + bit_and a r.care = ap (λ (c : ℕ). c * 2 ^ k + bit_and a r.care) one
      ∙ omega arith in
      in_high a b ∙ ne_eqb (bit_at r.care k * 2 ^ k + bit_and a r.care) (bit_at r.value k * 2 ^ k + r.value % 2 ^ k)
      (λ e. omega (arith, e, high, low)))

  pub cut_whole : cube_behind (k + 1) r ≡ join k (low_cofactor k (cube_behind (k + 1) r)) (high_cofactor k (cube_behind (k + 1) r))
  unfolding cube_behind
  cut_whole = join_cofactors_suc k (cube_behind (k + 1) r)
      (subst (λ i. IsFamily i (cube_behind (k + 1) r)) (add-one k)
      (IsFamily-family_where (k + 1) (λ a. bit_and a r.care == r.value % 2 ^ (k + 1))))

-- ---- the cube itself

pub cube_behind-zero : (r : Row) → cube_behind 0 r ≡ 0 ∷ []
unfolding cube_behind family_where numbers_below
cube_behind-zero r = ap (λ b. cond b (0 ∷ []) []) (eq-eqb 0 (r.value % 1) (omega arith))

pub cube_behind-all : (n : ℕ) (r : Row) → r.care < 2 ^ n → divides r.value r.care ≡ true → cube_behind n r ≡ cube n r
unfolding cube_behind cube in_cube divides
cube_behind-all n r small within = grind (arith, eqb-true, and_le_r, mod-eq_of_lt)

-- a cube over one variable fewer is a part of it
sub-next : (k n : ℕ) (r : Row) → divides r.value r.care ≡ true → k < n → Covers (sub n (cube_behind (k + 1) r)) (sub n (cube_behind k r))
sub-next k n r within less f has =
    let whole : Family = cube_behind (k + 1) r in
    let fits : IsFamily (suc k) whole = subst (λ i. IsFamily i whole) (add-one k) (IsFamily-cube_behind (k + 1) r) in
    let here : Has (sub k (cube_behind k r)) f = subst (λ fs. Has fs f)
    (sub-narrow k n (cube_behind k r) (IsFamily-cube_behind k r) (omega arith)) has in
    subst (λ fs. Has fs f) (sym (sub-narrow (suc k) n whole fits (omega arith)))
    (⊎_elim
    (λ none. sub-low_cofactor k whole fits f (subst (λ g. Has (sub k g) f) (sym (low_rest k r none)) here))
    (λ some. sub-high_cofactor k whole f (subst (λ g. Has (sub k g) f) (sym (high_rest k r (value_present k r within some))) here))
    (cases_eq (bit_at r.value k) 0))

-- the cube over fewer variables has its subfamilies in the cube's
pub sub-cube_behind : (j k n : ℕ) (r : Row) → divides r.value r.care ≡ true → k + j ≤ n
    → Covers (sub n (cube_behind (k + j) r)) (sub n (cube_behind k r))
sub-cube_behind zero k n r within few f has = let e : k + 0 ≡ k = omega arith in subst (λ i. Has (sub n (cube_behind i r)) f) (sym e) has
sub-cube_behind (suc j) k n r within few f has =
    let e : k + suc j ≡ k + j + 1 = omega arith in
    subst (λ i. Has (sub n (cube_behind i r)) f) (sym e)
    (sub-next (k + j) n r within (omega arith) f (sub-cube_behind j k n r within (omega arith) f has))

-- the cube over no variables
pub cube_start : (s : State) (r : Row) → IsSound s → Builds s s (Ok (record { 0 = 1 })) (cube_behind 0 r)
cube_start s r ok = Builds-known s (record { 0 = 1 }) (cube_behind 0 r) ok (ok.unit ∙ ap Some (sym (cube_behind-zero r)))

-- s is the state before, t the one after k variables, of n
pub step_grown : {s t : State} (n k : ℕ) (r : Row) {rest lo hi : Handle} → n ≡ s.vars → k < n → Builds s t (Ok rest) (cube_behind k r)
    → Denotes t lo (low_cofactor k (cube_behind (k + 1) r)) → Denotes t hi (high_cofactor k (cube_behind (k + 1) r))
    → r.care < 2 ^ s.vars → divides r.value r.care ≡ true → IsPlanned s (cube s.vars r) → MayGrow s t (n - k) lo hi (cube_behind (k + 1) r)
step_grown {s} {t} n k r {rest} all less before low' high' small within planned =
    let next : Family = cube_behind (k + 1) r in let behind : s.vars - (n - k) ≡ k = omega (arith, all, less) in
    let more : k + 1 + (s.vars - (k + 1)) ≡ s.vars = omega (arith, all, less) in
    let is : cube_behind (k + 1 + (s.vars - (k + 1))) r ≡ cube s.vars r = ap (λ (i : ℕ). cube_behind i r) more
    ∙ cube_behind-all s.vars r small within in
    record {
      reads = Gives-reads s t rest _ _ before;
      first = omega (arith, less);
      last = omega (arith, all);
      low = low_cofactor k next;
      high = high_cofactor k next;
      lo_is = low';
      hi_is = high';
      low_after = rw behind (IsFamily-low_cofactor k next);
      high_after = rw behind (IsFamily-high_cofactor k next);
      whole = rw behind (cut_whole k r);
      planned = λ f has. planned f (subst (λ g. Has (sub s.vars g) f) is
          (sub-cube_behind (s.vars - (k + 1)) (k + 1) s.vars r within (omega (arith, all, less)) f has));
    }
