-- The rows of a seed one by one, that they make a description, and that they do not contradict each other: each says of its
-- point what is so there.
use Rattle.std.proofs.Common.{◌≡◌, ℕ, ◌+◌, ◌-◌, ◌*◌, ◌%◌, ◌^◌, ◌<◌, true, cond, nat_eq, [], ◌∷◌, ◌++◌, map, length, get_or, slice_index}
use Rattle.std.proofs.Common.{bit_and, refl, ◌∙◌, arith, add-one, List, rules}
use Rattle.std.proofs.lemmas.Nat.{and_comm, and_mask, and_le_r, shl_whole, mod_below, and_assoc, pow_pos}
use Rattle.std.proofs.Math.Nat.{mod-eq_of_lt}
use Rattle.std.proofs.lemmas.List.{get_or-map, length-map}
use Rattle.std.proofs.lemmas.List.Sums.{sum_by-append}
use Rattle.std.proofs.lemmas.List.Elements.{All-map, All-filter, All-contains, filter_passes}
use Rattle.std.specs.List.{range_with_len, All, Contains}
use Rattle.std.proofs.lemmas.List.FromFn.{map-range_with_len_more, length-map-range_with_len, get_or-map-range_with_len}
use Rattle.lattice.specs.Words.{divides, numbers_below, IsConsistent, in_cube, rows_with}
use Rattle.lattice.specs.declared.row.Row.{Row}
use Rattle.lattice.specs.declared.kind.Kind.TheVariants.{Fr}
use Rattle.pla_reader.specs.Description.{FitsSizes, IsDescription}
use Rattle.gen_pla.specs.Generated.{point, outputs_at, pairs, generated_row, generated_rows}
use Rattle.lattice.proofs.Polynomials.{consistent_by_rows}
use Rattle.std.specs.Int.Bits.{and_step}
use Rattle.std.specs.List.Sorted.{IsStrictlyIncreasing}

-- a pair of bits is set where it is kept by a mask
pub pair_set : (v i : ℕ) → i < 15
    → nat_eq (bit_and v (3 * 2 ^ i % 18446744073709551616)) (3 * 2 ^ i % 18446744073709551616) ≡ divides (3 * 2 ^ i) v
unfolding divides
pair_set v i lt = rw (shl_whole 3 2 i 64 (omega arith) (omega arith)) (rw (and_comm v (3 * 2 ^ i)) refl)

-- no pairs, and one pair more
pub pairs-none : (v : ℕ) → pairs v 0 ≡ 0
unfolding pairs numbers_below
pairs-none v = refl

pub pairs-next : (v i : ℕ) → pairs v (i + 1) ≡ pairs v i + cond (divides (3 * 2 ^ i) v) 1 0
unfolding pairs numbers_below
pairs-next v i = search (rules, arith, add-one, sum_by-append)

pub ruleset pair_rules = (pairs-none, pairs-next)

-- no rows, and one row more
pub generated_rows-none : (seed : ℕ) → generated_rows seed 0 ≡ []
unfolding generated_rows
generated_rows-none seed = refl

pub generated_rows-next : (seed k : ℕ) → generated_rows seed (k + 1) ≡ generated_rows seed k ++ generated_row seed k ∷ []
unfolding generated_rows
generated_rows-next seed k = map-range_with_len_more (generated_row seed) 0 k k (omega arith)

-- the line of row k is k + 1
line_at : (seed count k : ℕ) → k < count → slice_index (map (λ (r : Row). r.line) (generated_rows seed count)) k ≡ k + 1
unfolding generated_rows generated_row
line_at seed count k lt =
    let row = get_or-map-range_with_len (generated_row seed) 0 count k k (generated_row seed 0) lt (omega arith) in
    let line = get_or-map (λ (r : Row). r.line) (generated_rows seed count) k (generated_row seed 0) 0 in
    grind (arith, length-map-range_with_len)

point-below : (seed k : ℕ) → point seed k < 65536
unfolding point
point-below seed k = mod_below _ 65536 (omega arith)

-- masks that share no output
apart : (x : ℕ) → x < 4 → bit_and x (3 - x) ≡ 0
apart x less = grind (arith, and_step)

pub masks_apart : (v : ℕ) → (outputs_at v < 4) × (bit_and (outputs_at v) (3 - outputs_at v) ≡ 0)
unfolding outputs_at
masks_apart v = let few : outputs_at v < 4 = omega arith in (few, apart (outputs_at v) few)

row_fits : (seed k : ℕ) → FitsSizes 16 2 Fr (generated_row seed k)
unfolding generated_row divides
row_fits seed k =
    let v = point seed k in let few = masks_apart v in let value = and_mask v 16 ∙ mod-eq_of_lt (point-below seed k) in
    let on = and_le_r (outputs_at v) 0 in let off = and_le_r (3 - outputs_at v) 0 in grind arith

pub generated_fits : (seed : ℕ) → IsDescription 16 2 Fr (generated_rows seed 256) [] []
unfolding generated_rows
generated_fits seed =
    let few : length (generated_rows seed 256) ≡ 256 = length-map-range_with_len (generated_row seed) 0 256 in
    let ascends : IsStrictlyIncreasing (map (λ r. r.line) (generated_rows seed 256)) = λ k lt.
    grind (arith, length-map, line_at seed 256 k, line_at seed 256 (k + 1)) in
    let rows_fit = All-map (FitsSizes 16 2 Fr) (generated_row seed) (range_with_len 0 256)
    (λ k d less. row_fits seed (get_or (range_with_len 0 256) k d)) in grind arith

-- ---- no row contradicts another

-- the row fixes a point, and says of each output what is so there
abbrev Fixes : Row → Type 0
Fixes r = (r.care ≡ 65535) × (r.on ≡ outputs_at r.value) × (r.off ≡ 3 - outputs_at r.value)

all_fix : (seed : ℕ) → All Fixes (generated_rows seed 256)
unfolding generated_rows generated_row
all_fix seed = All-map Fixes (generated_row seed) (range_with_len 0 256) (λ _ _ _. (refl, refl, refl))

with_bit : (mask : Row → ℕ) (output : ℕ) (rows : List Row) (r : Row) → All Fixes rows → Contains (rows_with mask output rows) r
    → Fixes r × (divides (2 ^ (output - 1)) (mask r) ≡ true)
unfolding rows_with
with_bit mask output rows r fix h = (
  All-contains Fixes _ r (All-filter _ Fixes rows fix) h,
  All-contains (λ r. divides (2 ^ (output - 1)) (mask r) ≡ true) _ r (filter_passes _ rows) h,
)

-- masks that share no bit have no weight in common
no_common : (d x y : ℕ) → 0 < d → divides d x ≡ true → divides d y ≡ true → bit_and x y ≡ 0 → ⊥
unfolding divides
no_common d x y some in_x in_y none = grind (arith, and_assoc y d x, and_le_r d 0, and_comm)

pub generated_consistent : (seed : ℕ) → IsConsistent 16 2 (generated_rows seed 256)
unfolding in_cube
generated_consistent seed = (consistent_by_rows 16 2 (generated_rows seed 256)).1
    (λ output a r s first last below on off in_r in_s.
    let one = with_bit (λ (r : Row). r.on) output (generated_rows seed 256) r (all_fix seed) on in
    let two = with_bit (λ (r : Row). r.off) output (generated_rows seed 256) s (all_fix seed) off in
    let point : r.value ≡ s.value = grind arith in
    let apart : bit_and r.on s.off ≡ 0 = (let none = (masks_apart r.value).1 in grind arith) in
    no_common (2 ^ (output - 1)) r.on s.off (pow_pos (output - 1)) one.1 two.1 apart)

pub ruleset row_rules = (generated_rows-none, generated_rows-next, generated_fits, generated_consistent)
