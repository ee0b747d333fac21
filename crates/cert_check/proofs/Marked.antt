-- Tables of all points by halves, tables in which monomials are marked, the marks of points and the care points.
use Rattle.std.proofs.Common.{◌≡◌, ◌≢◌, ℕ, zero, suc, ◌+◌, ◌-◌, ◌^◌, ◌<◌, ◌≤◌, Bool, ◌==◌, List, [], ◌∷◌, ◌++◌, length, get_or, refl, sym}
use Rattle.std.proofs.Common.{ap, ◌∙◌, subst, arith, length-append, cond, take, All, count_by, rules, true, false, ◌&&◌, ◌||◌}
use Rattle.std.proofs.Common.{filter, bit_and, bit_or, Some, eq-eqb, map, Vec, Global, slice_get, Result, Ok, Err, IfOk}
use Rattle.std.proofs.lemmas.Grind.{pow_more, common_steps}
use Rattle.std.proofs.lemmas.List.{get_or_append_left, get_or-append-add, length-replicate, get_or-replicate, length-set, get_or-set_same}
use Rattle.std.proofs.lemmas.List.{get_or-set_other, get_or_default, take_more, length-map}
use Rattle.std.proofs.lemmas.List.Elements.{All-head}
use Rattle.std.proofs.lemmas.List.Sums.{count_by-le-length, length-filter}
use Rattle.std.proofs.Math.Nat.{pow-le-pow_right}
use Rattle.std.proofs.Math.ListN.{set, replicate}
use Rattle.lattice.specs.Words.{divides, has, IsFamily, numbers_below, family_where, join, in_cube, cover, rows_with, on_set, off_set}
use Rattle.lattice.specs.Words.{dc_set, points_where, care_zeros, care_ones, is_zero, is_one}
use Rattle.lattice.proofs.Polynomials.{IsFamily-family_where, has-family_where_below, same_below, IsFamily-join, has-join_low}
use Rattle.lattice.proofs.Polynomials.{has-join_high, count, count_join_low, count_join_high, length-numbers_below, has-nil, has_more_same}
use Rattle.lattice.proofs.Polynomials.{has_more_other, family_where-agree, any_push, by_halves, max_is_one, weight_bit}
use Rattle.cert_check.specs.Marks.{marked, CountsDivisors, IsMark, MarksPoint, has_value, is_care, MarksAll, MarksCare, care_by}
use Rattle.std.specs.Int.{bit_at}
use Rattle.std.specs.List.{list_any}
use Rattle.std.proofs.lemmas.Nat.Bits.{and_pow, bit_at_or, bit_at-lt, bit_at-zero}
use Rattle.std.proofs.lemmas.Nat.{and_comm}
use Rattle.std.proofs.Math.Bool.{or-false}
use Rattle.std.proofs.lemmas.Option.{slice_get_within}
use Rattle.lattice.specs.declared.row.Row.{Row}
use Rattle.lattice.specs.declared.kind.Kind.{Kind}
use Rattle.lattice.proofs.Diagrams.{get_map, get_cases}
use Rattle.pla_reader.specs.declared.row.Marks.{Marks}
use Rattle.cert_check.specs.declared.care.Care.{Care}

pub marked_family : (n : ℕ) (table : List ℕ) → IsFamily n (marked n table)
unfolding marked
marked_family n table = IsFamily-family_where n (λ m. get_or table m 0 == 1)

has-marked : (n : ℕ) (table : List ℕ) (x : ℕ) → x < 2 ^ n → has (marked n table) x ≡ (get_or table x 0 == 1)
unfolding marked
has-marked n table x below = has-family_where_below n (λ m. get_or table m 0 == 1) x below

-- no more monomials divide a point than there are
marked_few : (n : ℕ) (table : List ℕ) (a : ℕ) → count_by (λ m. divides m a) (marked n table) ≤ 2 ^ n
unfolding marked family_where
marked_few n table a = search (rules, arith, count_by-le-length, length-filter, length-numbers_below)

-- one point
alone : (x a : ℕ) → x ≤ 1 → a < 1 → get_or (x ∷ []) a 0 ≡ count_by (λ m. divides m a) (marked 0 (x ∷ []))
unfolding marked family_where numbers_below divides
alone zero zero small below = refl
alone (suc zero) zero small below = refl
alone x a small below = absurd (omega arith)

counts_alone : (table : List ℕ) → length table ≡ 1 → All (λ mark. mark ≤ 1) table → CountsDivisors 0 (marked 0 table) table
counts_alone (x ∷ []) size marks = record { size = refl; each = λ a below. alone x a (All-head (λ mark. mark ≤ 1) x [] marks) below }
counts_alone table size marks = absurd (omega (arith, size))

pub counts_one : (n : ℕ) (table : List ℕ) → n ≡ 0 → length table ≡ 2 ^ n → All (λ mark. mark ≤ 1) table →
    CountsDivisors n (marked n table) table
counts_one n table none size marks = rw none (counts_alone table (rw none at size) marks)

module _ (d : ℕ) (lo hi : List ℕ) (size : length lo ≡ 2 ^ d) where
  marked_low : (x : ℕ) → x < 2 ^ d → has (marked (d + 1) (lo ++ hi)) x ≡ has (join d (marked d lo) (marked d hi)) x
  marked_low x below = search (rules, arith, pow_more, has-marked, get_or_append_left, has-join_low)

  marked_high : (x : ℕ) → x < 2 ^ d → has (marked (d + 1) (lo ++ hi)) (2 ^ d + x) ≡ has (join d (marked d lo) (marked d hi)) (2 ^ d + x)
  marked_high x below =
      let here : get_or (lo ++ hi) (2 ^ d + x) 0 ≡ get_or hi x 0 = rw size at (get_or-append-add lo hi x 0) in
      grind (arith, pow_more 2 d, has-marked, has-join_high d (marked d lo) (marked d hi) x (marked_family d lo))

  marked_halves : marked (d + 1) (lo ++ hi) ≡ join d (marked d lo) (marked d hi)
  marked_halves = same_below (d + 1) _ _ (marked_family (d + 1) (lo ++ hi)) (IsFamily-join d _ _ (marked_family d lo) (marked_family d hi))
      (by_halves (λ x. has (marked (d + 1) (lo ++ hi)) x ≡ has (join d (marked d lo) (marked d hi)) x) d marked_low marked_high)

  pub counts_halves : (low high sums : List ℕ) → CountsDivisors d (marked d lo) low → CountsDivisors d (marked d hi)
      high → length sums ≡ length high → ((k : ℕ) → k < length low → get_or sums k 0 ≡ get_or high k 0 + get_or low k 0)
      → CountsDivisors (d + 1) (marked (d + 1) (lo ++ hi)) (low ++ sums)
  unfolding count
  counts_halves low high sums of_low of_high same each = record {
    size = let double = pow_more 2 d in omega (arith, length-append low sums, of_low.size, of_high.size);
    each = by_halves (λ a. get_or (low ++ sums) a 0 ≡ count_by (λ m. divides m a) (marked (d + 1) (lo ++ hi))) d
        (λ a less. get_or_append_left low sums 0 a (omega (arith, of_low.size))
        ∙ (of_low.each a less ∙ sym (ap (count_by (λ m. divides m a)) marked_halves
        ∙ count_join_low d (marked d lo) (marked d hi) a (marked_family d lo) (marked_family d hi) less))) at_high;
  }
    where
      at_high : (x : ℕ) → x < 2 ^ d → get_or (low ++ sums) (2 ^ d + x) 0 ≡ count_by (λ m. divides m (2 ^ d + x)) (marked (d + 1) (lo ++ hi))
      at_high x below =
          let l = of_low.each x below in let h = of_high.each x below in let s = each x (omega (arith, of_low.size)) in
          let whole = count_join_high d (marked d lo) (marked d hi) x (marked_family d lo) (marked_family d hi) below in
          let here : get_or (low ++ sums) (2 ^ d + x) 0 ≡ get_or sums x 0 = ap
          (λ (k : ℕ). get_or (low ++ sums) (k + x) 0) (sym of_low.size) ∙ get_or-append-add low sums x 0 in
          let halves = ap (count_by (λ m. divides m (2 ^ d + x))) marked_halves in
          omega (arith, l, h, s, whole, here, halves)

-- the sums of two counts are small
pub sums_fit : (d : ℕ) (lo hi low high : List ℕ) (k : ℕ) → d ≤ 13 → CountsDivisors d (marked d lo) low →
    CountsDivisors d (marked d hi) high → k < length low → get_or high k 0 + get_or low k 0 < 65536
sums_fit d lo hi low high k small of_low of_high below = grind (arith, marked_few d lo k, marked_few d hi k, pow-le-pow_right)

-- a table over one variable more, by its halves
pub counts_whole : (n : ℕ) (table lo hi low high sums : List ℕ) → n ≢ 0 → table ≡ lo ++ hi → length lo ≡ 2 ^ (n - 1) →
    CountsDivisors (n - 1) (marked (n - 1) lo) low → CountsDivisors (n - 1) (marked (n - 1) hi) high → length sums ≡ length high
    → ((k : ℕ) → k < length low → get_or sums k 0 ≡ get_or high k 0 + get_or low k 0) → CountsDivisors n (marked n table) (low ++ sums)
counts_whole n table lo hi low high sums some cut size of_low of_high same each =
    let e : n - 1 + 1 ≡ n = omega arith in
    rw cut (subst (λ (k : ℕ). CountsDivisors k (marked k (lo ++ hi)) (low ++ sums)) e
    (counts_halves (n - 1) lo hi size low high sums of_low of_high same each))

pub half_of : (n size : ℕ) → n ≢ 0 → size ≡ 2 ^ n → size ≡ 2 ^ (n - 1) + 2 ^ (n - 1)
half_of n size some is = grind (arith, pow_more 2 (n - 1))

-- ==== A table in which monomials are marked

-- the monomials are marked by 1, and all others by 0
pub record MarksMonomials (n : ℕ) (monomials table : List ℕ) : Type 0 where
  pub size : length table ≡ 2 ^ n
  pub each : (x : ℕ) → x < 2 ^ n → get_or table x 0 ≡ cond (has monomials x) 1 0

pub marks_nothing : (n size : ℕ) (table : List ℕ) → size ≡ 2 ^ n → table ≡ replicate size 0 → MarksMonomials n [] table
marks_nothing n size table is zeros = search (rules, arith, length-replicate, get_or-replicate, has-nil)

pub marks_more : (n i m : ℕ) (monomials table : List ℕ) → MarksMonomials n (take i monomials) table → i < length
    monomials → m ≡ get_or monomials i m → m < 2 ^ n → MarksMonomials n (take (i + 1) monomials) (set table m 1)
marks_more n i m monomials table so_far within is below =
    search (rules, arith, length-set, get_or-set_same, get_or-set_other, has_more_same, has_more_other)

mark_le : (b : Bool) → cond b 1 0 ≤ 1
mark_le b = grind arith

pub marks_small : (n : ℕ) (monomials table : List ℕ) → MarksMonomials n monomials table → All (λ mark. mark ≤ 1) table
marks_small n monomials table marks k d below = search (rules, arith, mark_le, get_or_default)

mark_tells : (b : Bool) → (cond b 1 0 == 1) ≡ b
mark_tells b = grind arith

pub marked_is : (n : ℕ) (monomials table : List ℕ) → MarksMonomials n monomials table → marked n table ≡ family_where
    n (has monomials)
unfolding marked
marked_is n monomials table marks = grind (arith, family_where-agree, mark_tells)

-- ==== The marks of points: what one more row adds, the points with a value, and the care points as a table.

divides-pow : (j x : ℕ) → divides (2 ^ j) x ≡ (bit_at x j == 1)
unfolding divides
divides-pow j x = ap (λ (z : ℕ). z == 2 ^ j) (and_comm (2 ^ j) x ∙ and_pow x j) ∙ weight_bit j (bit_at x j) (bit_at-lt x j)

divides-or : (j x y : ℕ) → divides (2 ^ j) (bit_or x y) ≡ (divides (2 ^ j) x || divides (2 ^ j) y)
divides-or j x y = search (rules, arith, divides-pow, bit_at_or, max_is_one, bit_at-lt)

divides-zero : (j : ℕ) → divides (2 ^ j) 0 ≡ false
divides-zero j = divides-pow j 0 ∙ ap (λ (z : ℕ). z == 1) (bit_at-zero j)

-- ---- one more row

mark_inside : (mask : Row → ℕ) (rows : List Row) (r : Row) (a m : ℕ) → in_cube r a ≡ true → IsMark mask rows a m →
    IsMark mask (rows ++ r ∷ []) a (bit_or m (mask r))
mark_inside mask rows r a m inside before j small = grind (arith, divides-or, any_push)

mark_outside : (mask : Row → ℕ) (rows : List Row) (r : Row) (a m : ℕ) → in_cube r a ≡ false → IsMark mask rows a m →
    IsMark mask (rows ++ r ∷ []) a m
mark_outside mask rows r a m outside before j small = grind (arith, any_push, or-false)

pub marks_none : (a : ℕ) → MarksPoint [] a (record { on = 0; off = 0; dc = 0 })
marks_none a = grind (arith, divides-zero)

-- ---- the points with a value

-- a point is covered by the rows that have an output's bit where its mark has the bit
any_filter : (p q : Row → Bool) (rows : List Row) → list_any p (filter q rows) ≡ list_any (λ r. p r && q r) rows
any_filter p q [] = refl
any_filter p q (r ∷ rows) = grind (arith, any_filter p q rows)

covered : (mask : Row → ℕ) (n output a m : ℕ) (rows : List Row) → 1 ≤ output → output ≤ 64 → a < 2 ^ n → IsMark mask rows a m
    → has (cover n (rows_with mask output rows)) a ≡ divides (2 ^ (output - 1)) m
unfolding cover rows_with
covered mask n output a m rows first last below mark = search (rules, arith, has-family_where_below, any_filter)

pub is_care_of : (n output a : ℕ) (kind : Kind) (value : Bool) (rows : List Row) (m : Marks) → 1 ≤ output → output ≤
    64 → a < 2 ^ n → MarksPoint rows a m → has_value kind value (has (on_set n rows output) a) (has (off_set n rows output) a)
    (has (dc_set n rows output) a) ≡ is_care kind value output m
is_care_of n output a kind value rows m first last below at = grind (arith, covered)

-- ---- the table of marks

-- the marks of the points below size
pub record MarksBelow (size : ℕ) (rows : List Row) (marks : List Marks) : Type 0 where
  pub size_is : length marks ≡ size
  pub each : (a : ℕ) (m : Marks) → slice_get marks a ≡ Some m → MarksPoint rows a m

pub marked_more : (size : ℕ) (rows : List Row) (marks next : List Marks) (m : Marks) → MarksBelow size rows marks →
    MarksPoint rows size m → next ≡ marks ++ m ∷ [] → MarksBelow (size + 1) rows next
marked_more size rows marks next m before here is = search (rules, arith, length-append, get_cases)

-- one more row of a list
pub marks_next_inside : (rows : List Row) (i : ℕ) (d : Row) (a : ℕ) (m n : Marks) → i < length rows → bit_and a
    (get_or rows i d).care ≡ (get_or rows i d).value → MarksPoint (take i rows) a m → n ≡ record {
      on = bit_or m.on (get_or rows i d).on;
      off = bit_or m.off (get_or rows i d).off;
      dc = bit_or m.dc (get_or rows i d).dc;
    } → MarksPoint (take (i + 1) rows) a n
unfolding in_cube
marks_next_inside rows i d a m n within inside before is =
    let r = get_or rows i d in let here : in_cube r a ≡ true = eq-eqb (bit_and a r.care) r.value inside in
    rw (take_more rows i d within, is) (record {
      on = mark_inside (λ s. s.on) (take i rows) r a m.on here before.on;
      off = mark_inside (λ s. s.off) (take i rows) r a m.off here before.off;
      dc = mark_inside (λ s. s.dc) (take i rows) r a m.dc here before.dc;
    })

pub marks_next_outside : (rows : List Row) (i : ℕ) (d : Row) (a : ℕ) (m n : Marks) → i < length rows →
    (bit_and a (get_or rows i d).care ≡ (get_or rows i d).value → ⊥) → MarksPoint (take i rows) a m
    → n ≡ m → MarksPoint (take (i + 1) rows) a n
unfolding in_cube
marks_next_outside rows i d a m n within outside before is = grind (arith, common_steps, take_more, mark_outside)

-- ==== The care points of an output, as a table over all points

points_at : (test : Bool → Bool → Bool → Bool) (n : ℕ) (rows : List Row) (output a : ℕ) → a < 2 ^ n → has
    (points_where test n rows output) a ≡ test (has (on_set n rows output) a) (has (off_set n rows output) a) (has (dc_set n rows output) a)
unfolding points_where
points_at test n rows output a below = simp has-family_where_below

-- care points are a family
pub points_family : (test : Bool → Bool → Bool → Bool) (n : ℕ) (rows : List Row) (output : ℕ) → IsFamily n (points_where test n rows output)
unfolding points_where
points_family test n rows output = IsFamily-family_where n _

pub care_table : (kind : Kind) (output n : ℕ) (rows : List Row) (marks : List Marks) → 1 ≤ output → output ≤ 64 →
    MarksAll n rows marks → MarksCare n (care_zeros n kind rows output) (care_ones n kind rows output) (map (care_by kind output) marks)
care_table kind output n rows marks first last all = record {
  size = length-map marks (care_by kind output) ∙ all.size;
  each = λ a c e.
      let from = get_map (care_by kind output) marks a c e in
      let below : a < 2 ^ n = omega (arith, slice_get_within marks a from.0 from.1, all.size) in
      let at = all.each a from.0 from.1 in (
        ap (λ (x : Care). x.zero) from.2 ∙ sym (points_at (is_zero kind) n rows output a below ∙ is_care_of n output a
            kind false rows from.0 first last below at),
        ap (λ (x : Care). x.one) from.2 ∙ sym (points_at (is_one kind) n rows output a below ∙ is_care_of n output a
            kind true rows from.0 first last below at),
      );
  zeros_below = points_family (is_zero kind) n rows output;
  ones_below = points_family (is_one kind) n rows output;
}

pub care_tables : (kind : Kind) (output : ℕ) (marks : List Marks) {E : Type 0} (r : Result (Vec Care Global) E) → 1 ≤
    output → output ≤ 64 → IfOk r (λ care. care.items ≡ map (care_by kind output) marks)
    → IfOk r (λ care. (n : ℕ) (rows : List Row) → MarksAll n rows marks → MarksCare n (care_zeros n kind rows output)
    (care_ones n kind rows output) care.items)
care_tables kind output marks (Ok care) first last items = λ n rows all. rw items (care_table kind output n rows marks first last all)
care_tables kind output marks (Err e) first last items = tt
