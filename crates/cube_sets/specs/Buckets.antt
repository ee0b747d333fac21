-- Rows by the values of the columns that all of them fix which give a value.
use Rattle.std.specs.Prelude.{◌≡◌, ◌⊎◌, ℕ, ◌%◌, true, bit_and, List, slice_index_or}
use Rattle.lattice.specs.Family.{divides}
use Rattle.lattice.specs.declared.row.Row.{Row}
use Rattle.cube_sets.specs.declared.clash.Clash.{Clash}
use Rattle.cube_sets.specs.Clashes.{IsClashOf}

-- the row gives no value, or fixes these columns
abbrev pub Fixes : (common : ℕ) → Row → Type 0
Fixes common r = ((r.on ≡ 0) × (r.off ≡ 0)) ⊎ (divides common r.care ≡ true)

-- of so many buckets, the mark of the row's has all outputs that the row says to be 0
abbrev pub IsMarked : (buckets common : ℕ) → List ℕ → Row → Type 0
IsMarked buckets common offs r = divides r.off (slice_index_or offs (bit_and r.value common % buckets) 0) ≡ true

-- the on-row `a` does not contradict the off-row `b`
abbrev pub MeetsNone : Row → Row → Type 0
MeetsNone a b = (n : ℕ) (c : Clash) → IsClashOf n a b c → ⊥
