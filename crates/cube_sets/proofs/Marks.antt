-- Rows that share a point stand in one bucket, whose mark has the outputs that one of them says to be 0.
use Rattle.std.proofs.Common.{◌≡◌, ℕ, ◌+◌, ◌-◌, ◌%◌, ◌<◌, true, bit_and, bit_or, List, take, length, get_or, slice_set, ap, arith}
use Rattle.std.proofs.Common.{inl, inr, ⊎_elim}
use Rattle.std.specs.Int.{bit_at}
use Rattle.std.specs.List.{All}
use Rattle.std.proofs.lemmas.Grind.{common_steps, get_or-set_at}
use Rattle.std.proofs.lemmas.Nat.Bits.{bit_at_and, bit_at_or, bit_at-lt, bit_at-zero, same_from_bits}
use Rattle.std.proofs.lemmas.List.Elements.{All-more}
use Rattle.lattice.specs.Words.{divides}
use Rattle.lattice.specs.declared.row.Row.{Row}
use Rattle.lattice.proofs.Polynomials.{divides_by_bits}
use Rattle.cube_sets.specs.Clashes.{SharePoint}
use Rattle.cube_sets.specs.Buckets.{Fixes, IsMarked, MeetsNone}
use Rattle.cube_sets.proofs.Pairs.{bit_from_divides, no_mask}
use Rattle.cube_sets.proofs.SharedPoints.{agree_where_shared}

-- ---- masks

divides_cut : (m c x : ℕ) → divides m x ≡ true → divides (bit_and m c) x ≡ true
divides_cut m c x h = grind (arith, divides_by_bits, bit_and, bit_at_and, bit_at-lt)

divides_cut_other : (m c x : ℕ) → divides c x ≡ true → divides (bit_and m c) x ≡ true
divides_cut_other m c x h = grind (arith, divides_by_bits, bit_and, bit_at_and, bit_at-lt)

divides_more : (m x y : ℕ) → divides m x ≡ true → divides m (bit_or x y) ≡ true
divides_more m x y h = grind (arith, divides_by_bits, bit_or, bit_at_or, bit_at-lt)

divides_added : (x y : ℕ) → divides y (bit_or x y) ≡ true
divides_added x y = grind (arith, divides_by_bits, bit_at_or, bit_at-lt)

-- ---- columns that a row fixes

-- every row fixes the columns that it fixes
pub fixes_own : (r : Row) → Fixes r.care r
fixes_own r = inr ((divides_by_bits r.care r.care).1 (λ i set. set))

-- it fixes those of them that another mask has too
pub fixes_cut : (m c : ℕ) (r : Row) → Fixes m r → Fixes (bit_and m c) r
fixes_cut m c r h = ⊎_elim (λ none. inl none) (λ fixed. inr (divides_cut m c r.care fixed)) h

pub fixes_cut_other : (m c : ℕ) (r : Row) → Fixes c r → Fixes (bit_and m c) r
fixes_cut_other m c r h = ⊎_elim (λ none. inl none) (λ fixed. inr (divides_cut_other m c r.care fixed)) h

-- ---- marks of the rows so far

module _ (buckets common : ℕ) (offs : List ℕ) (i : ℕ) (inside : i < length offs) where
  -- a mark that grows keeps what is marked
  marked_still : (off : ℕ) (r : Row) → IsMarked buckets common offs r
      → IsMarked buckets common (slice_set offs i (bit_or (get_or offs i 0) off)) r
  marked_still off r marked = grind (arith, common_steps, divides_more)

  pub marked_more : (rows : List Row) (k : ℕ) (d : Row) → k < length rows → i ≡ bit_and (get_or rows k d).value common % buckets
      → All (IsMarked buckets common offs) (take k rows)
      → All (IsMarked buckets common (slice_set offs i (bit_or (get_or offs i 0) (get_or rows k d).off))) (take (k + 1) rows)
  marked_more rows k d below is before =
      All-more (IsMarked buckets common (slice_set offs i (bit_or (get_or offs i 0) (get_or rows k d).off))) rows k d below
      (λ j e less. marked_still (get_or rows k d).off (get_or (take k rows) j e) (before j e less))
      (grind (arith, get_or-set_at, divides_added))

-- ---- rows that share a point

pub same_bucket : (n common : ℕ) (a b : Row) → divides common a.care ≡ true → divides common b.care ≡ true → SharePoint n a b
    → bit_and a.value common ≡ bit_and b.value common
same_bucket n common a b first second shared = same_from_bits _ _ (λ i.
    let agree : bit_at (bit_and a.value b.care) i ≡ bit_at (bit_and b.value a.care) i =
    ap (λ x. bit_at x i) (agree_where_shared n a b shared) in
    grind (arith, bit_at_and, bit_at-lt, (divides_by_bits common a.care).0 first i, (divides_by_bits common b.care).0 second i))

none_unmarked_fixed : (buckets common : ℕ) (offs : List ℕ) (a b : Row) → divides common a.care ≡ true → divides common b.care ≡ true
    → bit_and a.on (get_or offs (bit_and a.value common % buckets) 0) ≡ 0 → IsMarked buckets common offs b → MeetsNone a b
none_unmarked_fixed buckets common offs a b first second apart marked n c clash =
    let same = same_bucket n common a b first second clash.shared in let at = c.output - 1 in
    let mark = get_or offs (bit_and a.value common % buckets) 0 in let here : divides b.off mark ≡ true = grind arith in
    let set = (divides_by_bits b.off mark).0 here at in grind (arith, bit_at-zero at, bit_at_and a.on mark at, bit_from_divides)

pub none_unmarked : (buckets common : ℕ) (offs : List ℕ) (a b : Row) → Fixes common a → Fixes common b
    → bit_and a.on (get_or offs (bit_and a.value common % buckets) 0) ≡ 0 → IsMarked buckets common offs b → MeetsNone a b
none_unmarked buckets common offs a b first second apart marked n c clash =
    let at = c.output - 1 in
    ⊎_elim (λ none. no_mask at a.on none.0 clash.on) (λ f. ⊎_elim (λ none. no_mask at b.off none.1 clash.off)
    (λ s. none_unmarked_fixed buckets common offs a b f s apart marked n c clash) second) first
