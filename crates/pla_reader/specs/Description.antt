-- What is true of every description.
use Rattle.std.specs.Prelude.{◌≡◌, ◌≢◌, ℕ, ◌^◌, ◌<◌, ◌≤◌, List, [], length, map, bit_and, Bool, true, false, not}
use Rattle.std.specs.List.{All}
use Rattle.std.specs.List.Sorted.{IsStrictlyIncreasing}
use Rattle.lattice.specs.Family.{divides}
use Rattle.lattice.specs.declared.row.Row.{Row}
use Rattle.lattice.specs.declared.kind.Kind.{Kind}
use Rattle.lattice.specs.Rows.{is_one, is_zero}
use Rattle.lattice.specs.declared.limits.TheConstants.{MAX_VARS}

-- whether the rows of a type may say that an output is 0: a point in none of ON, OFF and DC has not this value by itself
abbrev pub has_off : Kind → Bool
has_off kind = not (is_zero kind false false false)

-- and that it is not cared for: a point in ON and in DC has not the value 1
abbrev pub has_dc : Kind → Bool
has_dc kind = not (is_one kind true false true)

-- a row over so many inputs and outputs, of this type
pub record FitsSizes (inputs outputs : ℕ) (kind : Kind) (r : Row) : Type 0 where
  pub care : r.care < 2 ^ inputs
  pub value : divides r.value r.care ≡ true
  pub on : r.on < 2 ^ outputs
  pub off : r.off < 2 ^ outputs
  pub dc : r.dc < 2 ^ outputs
  pub on_or_off : bit_and r.on r.off ≡ 0
  pub on_or_dc : bit_and r.on r.dc ≡ 0
  pub off_or_dc : bit_and r.off r.dc ≡ 0
  pub no_off : has_off kind ≡ false → r.off ≡ 0
  pub no_dc : has_dc kind ≡ false → r.dc ≡ 0

-- so many names, or none
abbrev pub CountsNames : ℕ → List (List ℕ) → Type 0
CountsNames count names = (names ≢ []) → length names ≡ count

pub record IsDescription (inputs outputs : ℕ) (kind : Kind) (rows : List Row) (in_names out_names : List (List ℕ)) : Type 0 where
  pub some_inputs : 1 ≤ inputs
  pub few_inputs : inputs ≤ MAX_VARS
  pub some_outputs : 1 ≤ outputs
  pub few_outputs : outputs ≤ 64
  pub few_rows : length rows ≤ 8192
  pub lines_ascend : IsStrictlyIncreasing (map (λ r. r.line) rows)
  pub rows_fit : All (FitsSizes inputs outputs kind) rows
  pub in_count : CountsNames inputs in_names
  pub out_count : CountsNames outputs out_names
