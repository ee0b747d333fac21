-- What the rows say of a point: for each output, whether the point is in its ON, OFF and DC.
use Rattle.std.specs.Prelude.{◌≡◌, ℕ, ◌-◌, ◌^◌, ◌<◌, ◌&&◌, Bool, true, false, Some, List, length, slice_get, slice_index, ◌==◌}
use Rattle.std.specs.List.{list_any, count_by}
use Rattle.lattice.specs.Family.{Family, divides, has, family_where, IsFamily}
use Rattle.lattice.specs.Rows.{in_cube, is_one, is_zero}
use Rattle.lattice.specs.declared.kind.Kind.{Kind}
use Rattle.lattice.specs.declared.row.Row.{Row}
use Rattle.pla_reader.specs.declared.row.Marks.{Marks}
use Rattle.cert_check.specs.declared.care.Care.{Care}

-- bit j of the mark is set where a row with the point has it in the mask
abbrev pub IsMark : (Row → ℕ) → List Row → ℕ → ℕ → Type 0
IsMark mask rows a mark = (j : ℕ) → j < 64 → divides (2 ^ j) mark ≡ list_any (λ r. in_cube r a && divides (2 ^ j) (mask r)) rows

pub record MarksPoint (rows : List Row) (a : ℕ) (marks : Marks) : Type 0 where
  pub on : IsMark (λ r. r.on) rows a marks.on
  pub off : IsMark (λ r. r.off) rows a marks.off
  pub dc : IsMark (λ r. r.dc) rows a marks.dc

-- the marks of the points below 2 ^ n, in order
pub record MarksAll (n : ℕ) (rows : List Row) (marks : List Marks) : Type 0 where
  pub size : length marks ≡ 2 ^ n
  pub each : (a : ℕ) (m : Marks) → slice_get marks a ≡ Some m → MarksPoint rows a m

-- whether a point is a care point of the value, by whether it is in ON, OFF and DC
abbrev pub has_value : Kind → Bool → (on off dc : Bool) → Bool
has_value kind true = is_one kind
has_value kind false = is_zero kind

-- whether a point with these marks is a care point of the output, of this value
abbrev pub is_care : Kind → Bool → ℕ → Marks → Bool
is_care kind value output m = has_value kind value (divides (2 ^ (output - 1)) m.on) (divides (2 ^ (output - 1)) m.off) (divides (2 ^ (output - 1)) m.dc)

abbrev pub care_by : Kind → ℕ → Marks → Care
care_by kind output m = record { zero = is_care kind false output m; one = is_care kind true output m }

-- which points below 2 ^ n are care points of value 0, and of value 1
pub record MarksCare (n : ℕ) (zeros ones : Family) (care : List Care) : Type 0 where
  pub size : length care ≡ 2 ^ n
  pub each : (a : ℕ) (c : Care) → slice_get care a ≡ Some c → (c.zero ≡ has zeros a) × (c.one ≡ has ones a)
  pub zeros_below : IsFamily n zeros
  pub ones_below : IsFamily n ones

-- the monomials below 2 ^ n that a table marks by 1
unfoldable pub marked : ℕ → List ℕ → Family
marked n table = family_where n (λ m. slice_index table m == 1)

-- of each point below 2 ^ n, how many monomials divide it
pub record CountsDivisors (n : ℕ) (monomials : Family) (counts : List ℕ) : Type 0 where
  pub size : length counts ≡ 2 ^ n
  pub each : (a : ℕ) → a < 2 ^ n → slice_index counts a ≡ count_by (λ m. divides m a) monomials
