-- Families cut at a variable: the members that pass a test, the points of a set at which a polynomial is 1, values, greatest monomials
-- and products of polynomials, and the working lists.
use Rattle.std.proofs.Common.{◌≡◌, ℕ, suc, ◌+◌, ◌^◌, ◌<◌, ◌≤◌, Bool, true, false, ◌&&◌, [], refl, sym, ap, ap₂, ◌∙◌, arith, subst, ◌≢◌}
use Rattle.std.proofs.Common.{zero, cond, ◌||◌, ◌==◌, inl, inr, List, ◌∷◌, ◌++◌, ◌*◌, ◌%◌, ◌/◌, bit_and, map, zero-mul, mul-zero}
use Rattle.std.proofs.Common.{mul-one, length, length-append, ◌⊎◌}
use Rattle.std.proofs.Math.Bool.{and-false, or_comm, and_comm}
use Rattle.std.proofs.lemmas.Bool.{cases_Bool, and_parts, cond_both}
use Rattle.std.proofs.lemmas.Bool.Decides.{nat_tests}
use Rattle.std.proofs.lemmas.List.{length-map}
use Rattle.std.proofs.lemmas.Nat.{and_block, and_le_l, mod_below, pow_pos}
use Rattle.lattice.specs.Words.{Family, IsFamily, has, divides, family_where, Covers, sum_of, exactly_one, low_cofactor, high_cofactor}
use Rattle.lattice.specs.Words.{join, is_empty, is_constant, sub, ones_at, value, ones_of, ones_list, working_set, needs, operation_list}
use Rattle.lattice.specs.Words.{numbers_below, IsGreatest, product_of, product_list}
use Rattle.lattice.specs.declared.op.Op.TheVariants.{Ones}
use Rattle.lattice.proofs.Diagrams.{low_cofactor_whole, join_cofactors_suc, IsFamily-join_suc, Has-nil, IsFamily-nil, not_empty}
use Rattle.lattice.proofs.Diagrams.{high_cofactor_none, covers_left, covers_right, sub-nil, combine-right_empty, covers_append, covers_cons}
use Rattle.lattice.proofs.Diagrams.{covers_nil, covers_one, covers_head, covers_tail, steady, IsFamily-single, combine-left_empty}
use Rattle.lattice.proofs.Diagrams.{sub-join_high, sub-join_low, Has-head, Has-tail, Has-append_left, Has-append_right, covers_family}
use Rattle.lattice.proofs.Diagrams.{covers_more, covers_lists, covers_nothing}
use Rattle.lattice.proofs.Polynomials.{empty_is, below_bound, not_above_bound, is_family, IsFamily-family_where, has-family_where}
use Rattle.lattice.proofs.Polynomials.{only_below, family_where_has, family_where-agree, family_where-none, same_below, IsFamily_wider}
use Rattle.lattice.proofs.Polynomials.{IsFamily-low_cofactor, IsFamily-high_cofactor, has-low_cofactor, has-high_cofactor, has-join_low}
use Rattle.lattice.proofs.Polynomials.{has-join_high, divides_high_point, divides_high_monomial, divides_both_high, divides_le}
use Rattle.lattice.proofs.Polynomials.{divides_zero, has_none, IsFamily-combine, value-nil, value-one, not_constant, sum_after, sum_narrow}
use Rattle.lattice.proofs.Polynomials.{value-at_high, value-at_low, value-sum, twice, value-single, has_head, has_tail, has_cases, All-has}
use Rattle.lattice.proofs.Polynomials.{All-from_has, join_member, count, count-append, count-cons, count_agree, value-count, value_cases}
use Rattle.lattice.proofs.Polynomials.{value-lt, polynomial_by_values, product_by_values}
use Rattle.bool_poly.specs.Parts.{part_with}

-- ---- two families cut at a variable

-- two families over the variables from that of weight 2 ^ d on, one of which has it
pub record AreCutAt (n d : ℕ) (f g : Family) : Type 0 where
  pub less : d < n
  pub first_after : IsFamily (suc d) f
  pub second_after : IsFamily (suc d) g
  pub one_has : (is_empty (high_cofactor d f) && is_empty (high_cofactor d g)) ≡ false

-- a polynomial other than 0 and 1, and a set with a point
pub record AreFull (p q : Family) : Type 0 where
  pub some : p ≢ []
  pub varies : p ≢ 0 ∷ []
  pub points : q ≢ []

-- a family without the variable
pub lower : (d : ℕ) (f : Family) → IsFamily (suc d) f → is_empty (high_cofactor d f) ≡ true → IsFamily d f
lower d f is e = subst (IsFamily d) (low_cofactor_whole d f is (empty_is _ e)) (IsFamily-low_cofactor d f)

-- ---- the members that pass a test

abbrev pub kept : ℕ → Family → (ℕ → Bool) → Family
kept n f test = family_where n (λ a. has f a && test a)

has-kept : (n : ℕ) (f : Family) (test : ℕ → Bool) (a : ℕ) → IsFamily n f → has (kept n f test) a ≡ (has f a && test a)
has-kept n f test a is = grind (arith, has-family_where, only_below, not_above_bound)

pub IsFamily-kept : (n d : ℕ) (f : Family) (test : ℕ → Bool) → IsFamily d f → d ≤ n → IsFamily d (kept n f test)
IsFamily-kept n d f test is le =
    is_family d (kept n f test) (IsFamily-family_where n (λ a. has f a && test a)).ascends
    (λ x h. below_bound d f x is (and_parts (has f x) (test x) (sym (has-kept n f test x (IsFamily_wider d n f is le)) ∙ h)).0)

pub kept-agree : (n : ℕ) (f : Family) (p q : ℕ → Bool) → ((a : ℕ) → has f a ≡ true → p a ≡ q a) → kept n f p ≡ kept n f q
kept-agree n f p q h = grind (arith, family_where-agree, cases_Bool)

pub kept-all : (n : ℕ) (f : Family) (test : ℕ → Bool) → IsFamily n f → ((a : ℕ) → has f a ≡ true → test a ≡ true) → kept n f test ≡ f
kept-all n f test is h = grind (arith, family_where_has n f is)

pub kept-none : (n : ℕ) (f : Family) (test : ℕ → Bool) → ((a : ℕ) → has f a ≡ true → test a ≡ false) → kept n f test ≡ []
kept-none n f test h = grind (arith, kept-agree, family_where-none, and-false)

-- over fewer variables
pub kept-narrow : (d n : ℕ) (f : Family) (test : ℕ → Bool) → IsFamily d f → d ≤ n → kept n f test ≡ kept d f test
kept-narrow d n f test is le =
    same_below n (kept n f test) (kept d f test) (IsFamily-family_where n _) (IsFamily_wider d n _ (IsFamily-family_where d _) le)
    (λ a l. has-kept n f test a (IsFamily_wider d n f is le) ∙ sym (has-kept d f test a is))

module _ (n d : ℕ) (lo hi : Family) (lf : IsFamily d lo) (hf : IsFamily d hi) (less : d < n) where
  -- by tests that agree with it on the cofactors
  pub kept-join : (test low high : ℕ → Bool) → ((a : ℕ) → has lo a ≡ true → test a ≡ low a)
      → ((a : ℕ) → has hi a ≡ true → test (2 ^ d + a) ≡ high a) → kept n (join d lo hi) test ≡ join d (kept n lo low) (kept n hi high)
  kept-join test low high on_low on_high =
      let all = IsFamily-join_suc d lo hi lf hf in
      let wide : (f : Family) → IsFamily d f → IsFamily n f = λ f is. IsFamily_wider d n f is (omega arith) in
      let whole : (a : ℕ) → has (kept n (join d lo hi) test) a ≡ (has (join d lo hi) a && test a) =
      λ a. has-kept n (join d lo hi) test a (IsFamily_wider (suc d) n (join d lo hi) all (omega arith)) in
      join_cofactors_suc d (kept n (join d lo hi) test) (IsFamily-kept n (suc d) (join d lo hi) test all (omega arith)) ∙ ap₂ (join d)
      (same_below d _ _ (IsFamily-low_cofactor d _) (IsFamily-kept n d lo low lf (omega arith))
      (λ a l. let at = has-low_cofactor d (kept n (join d lo hi) test) a l in
      grind (arith, at, whole a, has-join_low d lo hi a l, has-kept n lo low a (wide lo lf), on_low a)))
      (same_below d _ _ (IsFamily-high_cofactor d _) (IsFamily-kept n d hi high hf (omega arith))
      (λ a l. let at = has-high_cofactor d (kept n (join d lo hi) test) a l in
      grind (arith, at, whole (2 ^ d + a), has-join_high d lo hi a lf, has-kept n hi high a (wide hi hf), on_high a)))

  -- ---- the points that a monomial divides

  -- it has no variable of weight 2 ^ d or more
  pub ones_at-without : (m : ℕ) → m < 2 ^ d → ones_at n m (join d lo hi) ≡ join d (ones_at n m lo) (ones_at n m hi)
  ones_at-without m l =
      kept-join (divides m) (divides m) (divides m) (λ a h. refl) (λ a h. divides_high_point d m a l (below_bound d hi a hf h))

  -- it has that of weight 2 ^ d, and none of more
  pub ones_at-with : (m : ℕ) → m < 2 ^ d → ones_at n (2 ^ d + m) (join d lo hi) ≡ join d [] (ones_at n m hi)
  ones_at-with m l =
      kept-join (divides (2 ^ d + m)) (λ a. false) (divides m) (λ a h. divides_high_monomial d m a l (below_bound d lo a lf h))
      (λ a h. divides_both_high d m a l (below_bound d hi a hf h))
      ∙ ap (λ f. join d f (ones_at n m hi)) (kept-none n lo (λ a. false) (λ a h. refl))

-- the monomial 1
pub ones_at-zero : (n : ℕ) (f : Family) → IsFamily n f → ones_at n 0 f ≡ f
ones_at-zero n f is = kept-all n f (divides 0) is (λ a h. divides_zero a)

-- it has a variable before all of the points
pub ones_at-before : (n d m : ℕ) (f : Family) → IsFamily d f → 2 ^ d ≤ m → ones_at n m f ≡ []
ones_at-before n d m f is le =
    kept-none n f (divides m) (λ a h. grind (arith, below_bound d f a is h, divides_le m a, cases_Bool (divides m a)))

-- ---- the part with the variable

pub part_with-none : (n : ℕ) (low high points : Family) → points ≡ [] → part_with n low high points ≡ []
unfolding part_with
part_with-none n low high points e = rw e

pub part_with-some : (n : ℕ) (low high points : Family) → points ≢ [] → part_with n low high points ≡ sum_of n low high
unfolding part_with
part_with-some n low high points ne = rw (not_empty points ne)

pub IsFamily-part_with : (d n : ℕ) (low high points : Family) → IsFamily d low → IsFamily d high → d ≤ n
    → IsFamily d (part_with n low high points)
unfolding part_with
IsFamily-part_with d n low high points lf hf le =
    cond_both (is_empty points) [] (sum_of n low high) (IsFamily d) (λ e. IsFamily-nil d) (λ e. sum_after d n low high lf hf le)

-- ---- the points

pub ones_of-nothing : (n : ℕ) (h points : Family) → (is_empty h || is_empty points) ≡ true → ones_of n h points ≡ []
unfolding ones_of
ones_of-nothing n [] points e = kept-none n points _ (λ a h. ap (λ v. v == 1) (value-nil a))
ones_of-nothing n (x ∷ h) [] e = kept-all n [] _ (IsFamily-nil n) (λ a i. has_none a i)
ones_of-nothing n (x ∷ h) (y ∷ points) e = cc

pub ones_of-unit : (n : ℕ) (points : Family) → IsFamily n points → ones_of n (0 ∷ []) points ≡ points
unfolding ones_of
ones_of-unit n points is = kept-all n points _ is (λ a h. ap (λ v. v == 1) (value-one a))

-- over more variables than the points have
pub ones_of-narrow : (d n : ℕ) (h points : Family) → IsFamily d points → d ≤ n → ones_of n h points ≡ ones_of d h points
unfolding ones_of
ones_of-narrow d n h points is le = kept-narrow d n points _ is le

-- they are points of as many variables
pub IsFamily-ones_of : (d n : ℕ) (h points : Family) → IsFamily d points → d ≤ n → IsFamily d (ones_of n h points)
unfolding ones_of
IsFamily-ones_of d n h points is le = IsFamily-kept n d points _ is le

-- ---- the working list

-- no polynomial or no points
pub ones_list-none : (n : ℕ) (h points : Family) → (is_empty h || is_empty points) ≡ true → ones_list n h points ≡ []
unfolding ones_list
ones_list-none zero h points e = rw e refl
ones_list-none (suc d) h points e = rw e refl

-- a constant other than 0, and a point
ones_list-constant : (n : ℕ) (h points : Family) → (is_empty h || is_empty points) ≡ false → is_constant h ≡ true
    → ones_list n h points ≡ points ∷ []
unfolding ones_list
ones_list-constant zero h points e const = rw e refl
ones_list-constant (suc d) h points e const = rw (e, const) refl

-- the polynomial 1, and a point
pub ones_list-unit : (n : ℕ) (points : Family) → points ≢ [] → ones_list n (0 ∷ []) points ≡ points ∷ []
ones_list-unit n points ne = ones_list-constant n (0 ∷ []) points (not_empty points ne) refl

-- the part of the list with the variable, over d variables
abbrev pub high_list : ℕ → Family → Family → Family → List Family
high_list d h0 h1 p1 =
    let sum = sum_of d h0 h1 in cond (is_empty p1) [] (cond (is_empty h1) (ones_list d h0 p1) (sum ∷ ones_list d sum p1))

ones_list-step : (d : ℕ) (h points : Family) → h ≢ [] → points ≢ [] → is_constant h ≡ false
    → (is_empty (high_cofactor d h) && is_empty (high_cofactor d points)) ≡ false
    → ones_list (suc d) h points ≡ ones_of (suc d) h points ∷ (ones_list d (low_cofactor d h) (low_cofactor d points)
    ++ high_list d (low_cofactor d h) (high_cofactor d h) (high_cofactor d points))
unfolding ones_list
ones_list-step d h points hn pn const some = rw (not_empty h hn, not_empty points pn, const, some) refl

-- a variable that neither has
pub ones_list-skip : (d : ℕ) (h points : Family) → high_cofactor d h ≡ [] → high_cofactor d points ≡ []
    → ones_list (suc d) h points ≡ ones_list d h points
unfolding ones_list
ones_list-skip d h points eh ep = grind (arith, cases_Bool, ones_list-none, ones_list-constant)

-- over more variables than the polynomial and the points have
pub ones_list-narrow : (d n : ℕ) (h points : Family) → IsFamily d h → IsFamily d points → d ≤ n
    → ones_list n h points ≡ ones_list d h points
ones_list-narrow d n h points hf pf le = steady (λ i. ones_list i h points) d n (λ k l. ones_list-skip k h points
    (high_cofactor_none k h (IsFamily_wider d k h hf l)) (high_cofactor_none k points (IsFamily_wider d k points pf l))) le

-- ---- the part of the list with the variable, and that of its polynomial
module _ (fs : List Family) (n : ℕ) (h0 : Family) (is : IsFamily n h0) where
  pub with_whole : (h1 p1 : Family) → Covers fs (sub n h0) → Covers fs (working_set n (high_list n h0 h1 p1))
      → Covers fs (working_set n (part_with n h0 h1 p1 ∷ ones_list n (part_with n h0 h1 p1) p1))
  unfolding part_with
  with_whole h1 [] low' all = rw (ones_list-none n [] [] refl) (covers_one n fs [] (rw (sub-nil n) (λ k i. absurd (Has-nil k i))))
  with_whole [] (x ∷ xs) low' all = rw (combine-right_empty exactly_one refl n h0 is refl) (covers_cons n fs _ h0 low' all)
  with_whole (y ∷ ys) (x ∷ xs) low' all = all

  pub with_parts : (h1 p1 : Family) → Covers fs (working_set n (part_with n h0 h1 p1 ∷ ones_list n (part_with n h0 h1 p1) p1))
      → Covers fs (working_set n (high_list n h0 h1 p1))
  unfolding part_with
  with_parts h1 [] all = covers_nil n fs
  with_parts [] (x ∷ xs) all = rw (combine-right_empty exactly_one refl n h0 is refl) at (covers_tail n fs _ _ all)
  with_parts (y ∷ ys) (x ∷ xs) all = all

divides_low : (d m a : ℕ) → m < 2 ^ d → divides m a ≡ divides m (a % 2 ^ d)
unfolding divides
divides_low d m a l = grind (arith, and_block d 0 (a / 2 ^ d) m (a % 2 ^ d), mod_below a (2 ^ d) (pow_pos d), and_le_l 0 (a / 2 ^ d))

-- the value at a point is that at its low part
pub value_low : (d : ℕ) (p : Family) (a : ℕ) → IsFamily d p → value p a ≡ value p (a % 2 ^ d)
value_low d p a is = grind (arith, value-count, count_agree, divides_low, below_bound)

-- ---- the value of g + x·h, where x has weight 2 ^ d

-- of a block, x says whether its lowest bit is there, and y and z what is there of the part below the weight w
same_block : (w x m y z : ℕ) → x < 2 → y ≤ m → m < w → z ≤ 0 → (x * w + y == w + m) ≡ ((x * w + z == w) && (y == m))
same_block w zero m y z a b c e = grind (arith, nat_tests)
same_block w (suc zero) m y z a b c e = grind (arith, nat_tests)
same_block w (suc (suc x)) m y z a b c e = absurd (omega arith)

divides_with : (d m a : ℕ) → m < 2 ^ d → divides (2 ^ d + m) a ≡ (divides (2 ^ d) a && divides m a)
unfolding divides
divides_with d m a l =
    let u = a / 2 ^ d in let b = a % 2 ^ d in let h = mod_below a (2 ^ d) (pow_pos d) in let small = and_le_l 1 u in
    let same = same_block (2 ^ d) (bit_and 1 u) m (bit_and m b) (bit_and 0 b) (omega arith) (and_le_l m b) l (and_le_l 0 b) in
    grind (arith, and_block d 1 u m b l h, and_block d 1 u 0 b (pow_pos d) h, and_block d 0 u m b l h, and_le_l 0 u, same)

count_with : (d : ℕ) (hi : Family) (a : ℕ) → ((m : ℕ) → has hi m ≡ true → m < 2 ^ d)
    → count (map (λ m. 2 ^ d + m) hi) a ≡ cond (divides (2 ^ d) a) (count hi a) 0
unfolding count
count_with d [] a below = grind arith
count_with d (m ∷ hi) a below =
    let again = count_with d hi a (λ k h. below k (has_tail m hi k h)) in
    let first = divides_with d m a (below m (has_head m hi)) in
    grind (arith, first, count-cons m hi a, count-cons (2 ^ d + m) (map (λ m. 2 ^ d + m) hi) a, again)

-- at a point with x it is the sum of both values, and else that of g
pub value_cut : (d : ℕ) (lo hi : Family) (a : ℕ) → IsFamily d hi
    → value (join d lo hi) a ≡ cond (divides (2 ^ d) a) ((value lo a + value hi a) % 2) (value lo a)
unfolding join
value_cut d lo hi a is = grind (arith, value-count, count-append, count_with, below_bound)

-- ---- the greatest monomial

pub greatest_join : (d : ℕ) (lo hi : Family) (r : ℕ) → IsFamily d lo → IsGreatest hi r → IsGreatest (join d lo hi) (2 ^ d + r)
greatest_join d lo hi r f top = record {
  member = has-join_high d lo hi r f ∙ top.member;
  top = All-from_has (λ k. k ≤ 2 ^ d + r) (join d lo hi) (λ k h. elim (join_member d lo hi k h) [
    | inl i ↦ omega (arith, below_bound d lo k f i)
    | inr i ↦ omega (arith, All-has (λ k. k ≤ r) hi i.0 top.top i.2, i.1)
  ]);
}

pub greatest_unit : IsGreatest (0 ∷ []) 0
greatest_unit = grind (arith, has_head 0, has_cases 0)

-- ---- a polynomial is given by its values

constant_is : (f : Family) → IsFamily 0 f → f ≡ cond (has f 0) (0 ∷ []) []
unfolding family_where numbers_below
constant_is f is = family_where_has 0 f is

-- Polynomials with the same value at each point are equal.
pub same_values : (d : ℕ) (p q : Family) → IsFamily d p → IsFamily d q → ((a : ℕ) → a < 2 ^ d → value p a ≡ value q a) → p ≡ q
same_values zero p q pf qf same = grind (arith, constant_is p pf, constant_is q qf, value-one 0, value-nil 0, same 0 (pow_pos 0))
same_values (suc d) p q pf qf same =
    join_cofactors_suc d p pf ∙ (ap₂ (join d)
    (same_values d _ _ (IsFamily-low_cofactor d p) (IsFamily-low_cofactor d q)
    (λ a l. grind (arith, value-at_low d p a pf l, value-at_low d q a qf l, same a (omega (arith, twice d)))))
    (same_values d _ _ (IsFamily-high_cofactor d p) (IsFamily-high_cofactor d q)
    (λ a l. let low' = same a (omega (arith, twice d)) in let high' = same (2 ^ d + a) (omega (arith, twice d)) in
    omega (arith, value-lt, value-at_low d p a pf l, value-at_low d q a qf l, value-at_high d p a pf l, value-at_high d q a qf l)))
    ∙ sym (join_cofactors_suc d q qf))

-- ---- products

-- a product of polynomials is a polynomial
pub IsFamily-product_of : (n : ℕ) (p q : Family) → IsFamily n (product_of n p q)
unfolding product_of
IsFamily-product_of n p q = (polynomial_by_values n _).0

pub product_is : (n : ℕ) (p q r : Family) → IsFamily n r → ((a : ℕ) → value r a ≡ value p a * value q a) → product_of n p q ≡ r
product_is n p q r rf each = same_values n (product_of n p q) r (IsFamily-product_of n p q) rf
    (λ a l. product_by_values n p q a l ∙ sym (each a))

-- the value at any point, of polynomials over fewer variables
pub value-product_of : (d n : ℕ) (p q : Family) (a : ℕ) → IsFamily d p → IsFamily d q → d ≤ n
    → value (product_of n p q) a ≡ value p a * value q a
value-product_of d n p q a pf qf le =
    let wide : (f : Family) → IsFamily d f → value f a ≡ value f (a % 2 ^ n) = λ f is. value_low n f a (IsFamily_wider d n f is le) in
    let some = pow_pos n in let whole = value_low n (product_of n p q) a (IsFamily-product_of n p q) in
    cc (whole, product_by_values n p q (a % 2 ^ n) (omega arith), wide p pf, wide q qf)

pub product_of-narrow : (d n : ℕ) (p q : Family) → IsFamily d p → IsFamily d q → d ≤ n → product_of n p q ≡ product_of d p q
product_of-narrow d n p q pf qf le = product_is n p q (product_of d p q) (IsFamily_wider d n _ (IsFamily-product_of d p q) le)
    (λ a. value-product_of d d p q a pf qf (omega arith))

pub product_after : (d n : ℕ) (p q : Family) → IsFamily d p → IsFamily d q → d ≤ n → IsFamily d (product_of n p q)
product_after d n p q pf qf le = rw (product_of-narrow d n p q pf qf le) (IsFamily-product_of d p q)

-- the product of the other order
pub product_of-swap : (n : ℕ) (p q : Family) → product_of n p q ≡ product_of n q p
product_of-swap n p q = same_values n _ _ (IsFamily-product_of n p q) (IsFamily-product_of n q p)
    (λ a l. omega (arith, product_by_values n p q a l, product_by_values n q p a l))

-- a product with 0 and with 1

pub product_of-left_none : (n : ℕ) (q : Family) → product_of n [] q ≡ []
product_of-left_none n q = grind (arith, product_is, IsFamily-nil, value-nil, zero-mul)

pub product_of-right_unit : (n : ℕ) (p : Family) → IsFamily n p → product_of n p (0 ∷ []) ≡ p
product_of-right_unit n p pf = grind (arith, product_is, value-one, mul-one)

-- ---- the working list

-- one of the two is 0 or 1
pub product_list-constant : (n : ℕ) (p q : Family) → (is_constant p || is_constant q) ≡ true → product_list n p q ≡ product_of n p q ∷ []
unfolding product_list
product_list-constant zero p q e = refl
product_list-constant (suc d) p q e = rw e refl

-- the polynomial at the points with x, without it
abbrev pub at_one : ℕ → ℕ → Family → Family
at_one n d f = sum_of n (low_cofactor d f) (high_cofactor d f)

-- the list where neither is, with the product k
abbrev pub list_of_parts : ℕ → Family → Family → Family → List Family
list_of_parts d p q k = product_list d (low_cofactor d p) (low_cofactor d q)
    ++ (product_list d (at_one d d p) (at_one d d q) ++ (at_one d d p ∷ at_one d d q ∷ k ∷ []))

product_list-step : (d : ℕ) (p q : Family) → (is_constant p || is_constant q) ≡ false
    → (is_empty (high_cofactor d p) && is_empty (high_cofactor d q)) ≡ false
    → product_list (suc d) p q ≡ list_of_parts d p q (product_of (suc d) p q)
unfolding product_list
product_list-step d p q const some = rw (const, some) refl

-- without the variable
product_list-skip : (d : ℕ) (p q : Family) → IsFamily d p → IsFamily d q → product_list (suc d) p q ≡ product_list d p q
unfolding product_list
product_list-skip d p q pf qf = grind (arith, cases_Bool, product_list-constant, product_of-narrow, high_cofactor_none)

pub product_list-narrow : (d n : ℕ) (p q : Family) → IsFamily d p → IsFamily d q → d ≤ n → product_list n p q ≡ product_list d p q
product_list-narrow d n p q pf qf le = steady (λ i. product_list i p q) d n
    (λ k l. product_list-skip k p q (IsFamily_wider d k p pf l) (IsFamily_wider d k q qf l)) le

-- lists whose parts are covered, with two families in the other order
swap_parts : (xs ys us vs : List Family) (f g k : Family) → Covers xs us → Covers ys vs
    → Covers (xs ++ (ys ++ (g ∷ f ∷ k ∷ []))) (us ++ (vs ++ (f ∷ g ∷ k ∷ [])))
swap_parts xs ys us vs f g k left right =
    search (covers_lists, covers_more, covers_nothing, Has-head, Has-tail, Has-append_left, Has-append_right, left, right) depth 9

-- the list of the other order
pub product_list-swap : (d : ℕ) (p q : Family) → Covers (product_list d q p) (product_list d p q)
unfolding product_list
product_list-swap zero p q = rw (product_of-swap 0 q p) (λ f h. h)
product_list-swap (suc d) p q =
    let p0 = low_cofactor d p in let p1 = high_cofactor d p in let q0 = low_cofactor d q in let q1 = high_cofactor d q in
    let ps = sum_of d p0 p1 in let qs = sum_of d q0 q1 in
    rw (or_comm (is_constant q) (is_constant p), and_comm (is_empty q1) (is_empty p1), product_of-swap (suc d) q p)
    (elim (cases_Bool (is_constant p || is_constant q)) [
      | inl t ↦ rw t (λ f h. h)
      | inr t ↦ elim (cases_Bool (is_empty p1 && is_empty q1)) [
        | inl u ↦ rw (t, u) (product_list-swap d p q)
        | inr u ↦ rw (t, u) (swap_parts _ _ _ _ ps qs (product_of (suc d) p q) (product_list-swap d p0 q0) (product_list-swap d ps qs))
      ]
    ])

-- ---- one step

pub at_one_after : (d n : ℕ) (f : Family) → d ≤ n → IsFamily d (at_one n d f)
at_one_after d n f le = sum_after d n _ _ (IsFamily-low_cofactor d f) (IsFamily-high_cofactor d f) le

-- the value of f over the variables from that of weight 2 ^ d on
value_split : (d n : ℕ) (f : Family) (a : ℕ) → IsFamily (suc d) f → d ≤ n → value f a
    ≡ cond (divides (2 ^ d) a) (value (at_one n d f) a) (value (low_cofactor d f) a)
value_split d n f a is le =
    let f0 = low_cofactor d f in let f1 = high_cofactor d f in let hf = IsFamily-high_cofactor d f in
    cc (join_cofactors_suc d f is, value_cut d f0 f1 a hf, value-sum d n f0 f1 a (IsFamily-low_cofactor d f) hf le)

-- a product by its values, without the variable and with it
values : (x : Bool) (l h w p0 ps q0 qs : ℕ) → l < 2 → w < 2 → l ≡ p0 * q0 → w ≡ ps * qs → h ≡ (l + w) % 2
    → cond x ((l + h) % 2) l ≡ cond x ps p0 * cond x qs q0
values true l h w p0 ps q0 qs a b e f g = omega (arith, f, g)
values false l h w p0 ps q0 qs a b e f g = e

-- the parts of the product, over the d variables behind the first
abbrev pub low_product : ℕ → Family → Family → Family
low_product d p q = product_of d (low_cofactor d p) (low_cofactor d q)

abbrev pub high_product : ℕ → Family → Family → Family
high_product d p q = sum_of d (low_product d p q) (product_of d (at_one d d p) (at_one d d q))

-- the families of its list in the order in which they are found, with the upper part; k is the product
abbrev pub product_calls : ℕ → Family → Family → Family → List Family
product_calls d p q k = product_list d (low_cofactor d p) (low_cofactor d q)
    ++ (at_one d d p ∷ at_one d d q ∷ (product_list d (at_one d d p) (at_one d d q) ++ (high_product d p q ∷ k ∷ [])))

pub as_called : (d : ℕ) (p q k : Family) → Covers (high_product d p q ∷ list_of_parts d p q k) (product_calls d p q k)
as_called d p q k = search (covers_lists, covers_more, covers_nothing, Has-head, Has-tail, Has-append_left, Has-append_right) depth 12

pub as_listed : (d : ℕ) (p q k : Family) → Covers (product_calls d p q k) (high_product d p q ∷ list_of_parts d p q k)
as_listed d p q k = search (covers_lists, covers_more, covers_nothing, Has-head, Has-tail, Has-append_left, Has-append_right) depth 12

module _ {n d : ℕ} {p q : Family} (cut : AreCutAt n d p q) where
  abbrev p0 : Family
  p0 = low_cofactor d p

  abbrev p1 : Family
  p1 = high_cofactor d p

  abbrev q0 : Family
  q0 = low_cofactor d q

  abbrev q1 : Family
  q1 = high_cofactor d q

  p0f : IsFamily d p0
  p0f = IsFamily-low_cofactor d p

  p1f : IsFamily d p1
  p1f = IsFamily-high_cofactor d p

  q0f : IsFamily d q0
  q0f = IsFamily-low_cofactor d q

  le : d ≤ n
  le = omega (arith, cut.less)

  -- ---- the points of q at which p is 1

  abbrev part : Family
  part = part_with n p0 p1 q1

  pub part_after : IsFamily d part
  part_after = IsFamily-part_with d n p0 p1 q1 p0f p1f le

  pub ones_of-join : ones_of n p q ≡ join d (ones_of n p0 q0) (ones_of n part q1)
  unfolding ones_of
  ones_of-join =
      ap (λ f. kept n f (λ a. value p a == 1)) (join_cofactors_suc d q cut.second_after)
      ∙ kept-join n d q0 q1 q0f (IsFamily-high_cofactor d q) cut.less (λ a. value p a == 1) (λ a. value p0 a == 1) (λ a. value part a == 1)
      (λ a i. ap (λ v. v == 1) (value-at_low d p a cut.first_after (below_bound d q0 a q0f i)))
      (λ a i. let some : part ≡ sum_of n p0 p1 = part_with-some n p0 p1 q1 (λ e. has_none a (rw e at i)) in
      cc (value-at_high d p a cut.first_after (below_bound d q1 a (IsFamily-high_cofactor d q) i), some, value-sum d n p0 p1 a p0f p1f le))

  -- the working list of the points
  module _ (full : AreFull p q) where
    ones_is : ones_list n p q ≡ ones_of n p q ∷ (ones_list n p0 q0 ++ high_list n p0 p1 q1)
    ones_is = cc (
      ones_list-narrow (suc d) n p q cut.first_after cut.second_after cut.less,
      ones_list-step d p q full.some full.points (not_constant p full.some full.varies) cut.one_has,
      ones_of-narrow (suc d) n p q cut.second_after cut.less,
      ones_list-narrow d n p0 q0 p0f q0f le,
      ones_list-narrow d n p0 q1 p0f (IsFamily-high_cofactor d q) le,
      sum_narrow d n p0 p1 p0f p1f le,
      ones_list-narrow d n (sum_of n p0 p1) q1 (sum_after d n p0 p1 p0f p1f le) (IsFamily-high_cofactor d q) le,
    )

    module _ (fs : List Family) where
      -- what has the parts has the working set
      pub covers_all : Covers fs (sub n (ones_of n p q)) → Covers fs (working_set n (ones_list n p0 q0))
          → Covers fs (working_set n (part ∷ ones_list n part q1)) → Covers fs (working_set n (ones_list n p q))
      covers_all self' low' high' = rw ones_is (covers_cons n fs _ _ self' (covers_append n fs _ _ low'
          (with_parts fs n p0 (IsFamily_wider d n p0 p0f le) p1 q1 high')))

      -- what has the working set has its parts
      module _ (all : Covers fs (working_set n (ones_list n p q))) where
        ones_parts : Covers fs (working_set n (ones_of n p q ∷ (ones_list n p0 q0 ++ high_list n p0 p1 q1)))
        ones_parts = rw ones_is at all

        pub covers_self : Covers fs (sub n (ones_of n p q))
        covers_self = covers_head n fs _ _ ones_parts

        pub covers_low : Covers fs (working_set n (ones_list n p0 q0))
        covers_low = covers_left n fs _ _ (covers_tail n fs _ _ ones_parts)

        -- what is evaluated at the points with the variable is in the list, or is the low part
        pub covers_high : Covers fs (sub n p0) → Covers fs (working_set n (part ∷ ones_list n part q1))
        covers_high low' = with_whole fs n p0 (IsFamily_wider d n p0 p0f le) p1 q1 low'
            (covers_right n fs _ _ (covers_tail n fs _ _ ones_parts))

  -- ---- the product

  pub product_of-join : product_of n p q ≡ join d (low_product d p q) (high_product d p q)
  product_of-join = let same : d ≤ d = omega arith in
      let high = IsFamily-combine exactly_one d (low_product d p q) (product_of d (at_one d d p) (at_one d d q)) in
      let ps = at_one_after d d p same in let qs = at_one_after d d q same in let low = IsFamily-product_of d p0 q0 in
      product_is n p q (join d (low_product d p q) (high_product d p q))
      (IsFamily_wider (suc d) n _ (IsFamily-join_suc d _ _ low high) (omega (arith, cut.less)))
      (λ a. let first = value_split d d p a cut.first_after same in let second = value_split d d q a cut.second_after same in
      rw (value_cut d (low_product d p q) (high_product d p q) a high, first, second)
      (values (divides (2 ^ d) a) _ _ (value (product_of d (at_one d d p) (at_one d d q)) a) _ _ _ _ (value-lt _ a) (value-lt _ a)
      (value-product_of d d p0 q0 a p0f q0f same) (value-product_of d d _ _ a ps qs same)
      (value-sum d d _ _ a low (IsFamily-product_of d _ _) same)))

  -- polynomials that are not constant
  module _ (const : (is_constant p || is_constant q) ≡ false) where
    pub product_list_is : product_list n p q ≡ list_of_parts d p q (product_of n p q)
    product_list_is = cc (
      product_list-narrow (suc d) n p q cut.first_after cut.second_after (omega (arith, cut.less)),
      product_list-step d p q const cut.one_has,
      product_of-narrow (suc d) n p q cut.first_after cut.second_after (omega (arith, cut.less)),
    )

    -- the part with the variable is a cofactor of the product
    pub product_high : (fs : List Family) → Covers fs (working_set n (product_list n p q)) → Covers fs (sub n (high_product d p q))
    product_high fs all k i =
        let whole = covers_family n fs _ (product_of n p q) (rw product_list_is at all) (search (Has-head, Has-tail, Has-append_right)) in
        whole k (rw product_of-join (sub-join_high d n _ _ (IsFamily-product_of d p0 q0) (IsFamily-combine exactly_one d _ _) cut.less k i))

-- ---- the product with a variable

-- no variable of p is before that of weight 2 ^ d
pub raised_is : (n d : ℕ) (p : Family) → IsFamily (suc d) p → d < n → product_of n p ((2 ^ d) ∷ []) ≡ join d [] (at_one n d p)
raised_is n d p pf less =
    let sum = at_one n d p in let sumf = at_one_after d n p (omega arith) in
    product_is n p ((2 ^ d) ∷ []) (join d [] sum) (IsFamily_wider (suc d) n _ (IsFamily-join_suc d [] sum (IsFamily-nil d) sumf) less)
    (λ a. let split = value_split d n p a pf (omega arith) in
    grind (arith, value_cut d [] sum a sumf, value-single (2 ^ d) a, split, value-nil a, value-lt sum a, mul-one, mul-zero))

-- the polynomial g + x·h, and q over the variables behind x
pub both_is : (n d : ℕ) (lo hi q : Family) → IsFamily d lo → IsFamily d hi → IsFamily d q → d < n
    → product_of n (join d lo hi) q ≡ join d (product_of n lo q) (product_of n hi q)
both_is n d lo hi q lf hf qf less =
    let le : d ≤ n = omega arith in let his = product_after d n hi q hf qf le in
    product_is n (join d lo hi) q (join d (product_of n lo q) (product_of n hi q))
    (IsFamily_wider (suc d) n _ (IsFamily-join_suc d _ _ (product_after d n lo q lf qf le) his) less)
    (λ a. let low' = value-product_of d n lo q a lf qf le in let high' = value-product_of d n hi q a hf qf le in
    let x = value-lt lo a in let y = value-lt hi a in let cut = value_cut d (product_of n lo q) (product_of n hi q) a his in
    grind (arith, cut, value_cut d lo hi a hf, low', high', value_cases q a, mul-one, mul-zero))

-- ---- a plan that has every family

-- a list that is chosen by a test
pub covers_choice : (n : ℕ) (fs : List Family) (b : Bool) (xs ys : List Family) → (b ≡ true → Covers fs (working_set n xs))
    → (b ≡ false → Covers fs (working_set n ys)) → Covers fs (working_set n (cond b xs ys))
covers_choice n fs b xs ys left right = cond_both b xs ys (λ l. Covers fs (working_set n l)) left right

module _ (plan : List Family) (n : ℕ) (any : (f : Family) → IsFamily n f → Covers plan (sub n f)) where
  -- it has what a polynomial and a set of points need
  pub any_ones_set : (d : ℕ) → d ≤ n → (h points : Family) → IsFamily d h → IsFamily d points
      → Covers plan (working_set n (ones_list d h points))
  unfolding ones_list
  any_ones_set zero at h points hf pf = covers_choice n plan (is_empty h || is_empty points) [] (points ∷ []) (λ e. covers_nil n plan)
      (λ e. covers_one n plan points (any points (IsFamily_wider 0 n points pf at)))
  any_ones_set (suc d) at h points hf pf =
      let under : d ≤ n = omega arith in let again = any_ones_set d under in
      let sumf = IsFamily-combine exactly_one d (low_cofactor d h) (high_cofactor d h) in
      covers_choice n plan (is_empty h || is_empty points) [] _ (λ e. covers_nil n plan)
      (λ e. covers_choice n plan (is_constant h) (points ∷ []) _
      (λ e. covers_one n plan points (any points (IsFamily_wider (suc d) n points pf at)))
      (λ e. covers_choice n plan (is_empty (high_cofactor d h) && is_empty (high_cofactor d points)) (ones_list d h points) _
      (λ e. let both = and_parts _ _ e in again h points (lower d h hf both.0) (lower d points pf both.1))
      (λ e. covers_cons n plan _ _ (any _ (IsFamily_wider (suc d) n _ (IsFamily-ones_of (suc d) (suc d) h points pf (omega arith)) at))
      (covers_append n plan _ _ (again _ _ (IsFamily-low_cofactor d h) (IsFamily-low_cofactor d points))
      (covers_choice n plan (is_empty (high_cofactor d points)) [] _ (λ e. covers_nil n plan)
      (λ e. covers_choice n plan (is_empty (high_cofactor d h)) (ones_list d _ _) _
      (λ e. again _ _ (IsFamily-low_cofactor d h) (IsFamily-high_cofactor d points))
      (λ e. covers_cons n plan _ _ (any _ (IsFamily_wider d n _ sumf under)) (again _ _ sumf (IsFamily-high_cofactor d points)))))))))

  just : (d : ℕ) → d ≤ n → (p q : Family) → Covers plan (working_set n (product_of d p q ∷ []))
  just d le p q = covers_one n plan (product_of d p q) (any _ (IsFamily_wider d n (product_of d p q) (IsFamily-product_of d p q) le))

  -- it has what a product needs
  pub any_product_list : (d : ℕ) → d ≤ n → (p q : Family) → Covers plan (working_set n (product_list d p q))
  unfolding product_list
  any_product_list zero at p q = just 0 at p q
  any_product_list (suc d) at p q =
      let again = any_product_list d (omega (arith, at)) in
      let sum : (f g : Family) → Covers plan (sub n (sum_of d f g)) =
      λ f g. any _ (IsFamily_wider d n _ (IsFamily-combine exactly_one d f g) (omega (arith, at))) in
      covers_choice n plan (is_constant p || is_constant q) _ _ (λ e. just (suc d) at p q)
      (λ e. covers_choice n plan (is_empty (high_cofactor d p) && is_empty (high_cofactor d q)) (product_list d p q) _ (λ o. again p q)
      (λ o. covers_append n plan _ _ (again _ _) (covers_append n plan _ _ (again _ _) (covers_cons n plan _ _ (sum _ _)
      (covers_cons n plan _ _ (sum _ _) (just (suc d) at p q))))))

-- what finding the points needs, by the list
pub needs_ones : (n : ℕ) (f g : Family) (x : ℕ) → needs Ones n f g x ≡ working_set n (ones_list n f g)
unfolding needs operation_list
needs_ones n f g x = refl

-- those of a single monomial are those that it divides
pub ones_of-single : (n m : ℕ) (points : Family) → ones_of n (m ∷ []) points ≡ ones_at n m points
unfolding ones_of
ones_of-single n m points = grind (arith, kept-agree, value-single)

-- ---- a polynomial with at most one monomial

lengths : (d : ℕ) (f : Family) → IsFamily (suc d) f → length (low_cofactor d f) + length (high_cofactor d f) ≡ length f
unfolding join
lengths d f is = sym (ap length (join_cofactors_suc d f is) ∙ simp (length-append, length-map))

-- what is evaluated at the points with a variable is 0 or one of its parts
part_few : (n : ℕ) (low high points : Family) → IsFamily n low → IsFamily n high → length low + length high ≤ 1
    → (part_with n low high points ≡ []) ⊎ (part_with n low high points ≡ low) ⊎ (part_with n low high points ≡ high)
unfolding part_with
part_few n low high [] lf hf few = inl refl
part_few n [] high (a ∷ points) lf hf few = inr (inr (combine-left_empty exactly_one refl n high hf refl))
part_few n (x ∷ low) [] (a ∷ points) lf hf few = inr (inl (combine-right_empty exactly_one refl n (x ∷ low) lf refl))
part_few n (x ∷ low) (y ∷ high) (a ∷ points) lf hf few = absurd (omega arith)

module _ (fs : List Family) (n : ℕ) where
  -- the list over n variables
  covers_few : (d : ℕ) → d ≤ n → (f points : Family) → IsFamily d f → IsFamily d points → length f ≤ 1 → Covers fs (sub n f)
      → Covers fs (sub n (ones_of n f points)) → Covers fs (working_set n (ones_list n f points))
  covers_few d at [] points ff pf few own all = rw (ones_list-none n [] points refl) (covers_nil n fs)
  covers_few d at (x ∷ f) [] ff pf few own all = rw (ones_list-none n (x ∷ f) [] refl) (covers_nil n fs)
  covers_few d at (x ∷ y ∷ f) (a ∷ rest) ff pf few own all = absurd (omega arith)
  covers_few d at (zero ∷ []) (a ∷ rest) ff pf few own all = rw (ones_list-unit n (a ∷ rest) (λ e. cc))
      (covers_one n fs _ (rw (ones_of-unit n (a ∷ rest) (IsFamily_wider d n _ pf at)) at all))
  covers_few zero at (suc k ∷ []) (a ∷ rest) ff pf few own all =
      absurd (omega (arith, below_bound 0 (suc k ∷ []) (suc k) ff (has_head (suc k) [])))
  covers_few (suc d) at (suc k ∷ []) (a ∷ rest) ff pf few own all =
      let f : Family = suc k ∷ [] in let points : Family = a ∷ rest in let under : d ≤ n = omega arith in
      let f0 = low_cofactor d f in let f1 = high_cofactor d f in let p0 = low_cofactor d points in let p1 = high_cofactor d points in
      let f0f = IsFamily-low_cofactor d f in let f1f = IsFamily-high_cofactor d f in let part = part_with n f0 f1 p1 in
      let p0f = IsFamily-low_cofactor d points in let p1f = IsFamily-high_cofactor d points in
      elim (cases_Bool (is_empty f1 && is_empty p1)) [
        | inl e ↦ let both = and_parts _ _ e in
            covers_few d under f points (lower d f ff both.0) (lower d points pf both.1) few own all
        | inr e ↦
            let cut : AreCutAt n d f points = record { less = at; first_after = ff; second_after = pf; one_has = e } in
            let count = lengths d f ff in let whole = rw (ones_of-join cut) at all in let split = join_cofactors_suc d f ff in
            let low : Covers fs (sub n f0) = λ g i. own g (rw split (sub-join_low d n f0 f1 f0f f1f at g i)) in
            let high : Covers fs (sub n f1) = λ g i. own g (rw split (sub-join_high d n f0 f1 f0f f1f at g i)) in
            let zeros = IsFamily-ones_of d n f0 p0 p0f under in let ones = IsFamily-ones_of d n part p1 p1f under in
            let small : (length part ≤ 1) × Covers fs (sub n part) =
            elim (part_few n f0 f1 p1 (IsFamily_wider d n f0 f0f under) (IsFamily_wider d n f1 f1f under) (omega (arith, count))) [
              | inl i ↦ rw i (omega arith, rw (sub-nil n) (λ g j. absurd (Has-nil g j)))
              | inr (inl i) ↦ rw i (omega (arith, count), low)
              | inr (inr i) ↦ rw i (omega (arith, count), high)
            ] in
            covers_all cut (record { some = λ e. cc; varies = λ e. cc; points = λ e. cc }) fs all
            (covers_few d under f0 p0 f0f p0f (omega (arith, count)) low (λ g i. whole g (sub-join_low d n _ _ zeros ones at g i)))
            (covers_cons n fs _ part small.1 (covers_few d under part p1 (part_after cut) p1f small.0 small.1
            (λ g i. whole g (sub-join_high d n _ _ zeros ones at g i))))
      ]

  -- what has the monomial and the points that it divides has the list
  pub covers_single : (d : ℕ) → d ≤ n → (m : ℕ) → m < 2 ^ d → (points : Family) → IsFamily d points → Covers fs (sub n (m ∷ []))
      → Covers fs (sub n (ones_at n m points)) → Covers fs (working_set n (ones_list d (m ∷ []) points))
  covers_single d at m below points pf own all =
      let single = IsFamily-single d m below in rw (ones_list-narrow d n (m ∷ []) points single pf at)
      at (covers_few d at (m ∷ []) points single pf (omega arith) own (rw (ones_of-single n m points) all))
