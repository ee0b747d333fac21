-- Rows that contradict each other: one says that an output is 1, the other that it is 0, and they share a point.
use Rattle.std.specs.Prelude.{◌≡◌, ℕ, ◌-◌, ◌^◌, ◌<◌, ◌≤◌, ◌⊎◌, true, List, Option, Some, None}
use Rattle.std.specs.List.{Contains}
use Rattle.lattice.specs.Family.{divides}
use Rattle.lattice.specs.Rows.{in_cube, on_rows, off_rows}
use Rattle.lattice.specs.declared.row.Row.{Row}
use Rattle.cube_sets.specs.declared.clash.Clash.{Clash}

-- a point below 2 ^ n is in both cubes
abbrev pub SharePoint : (n : ℕ) → (r s : Row) → Type 0
SharePoint n r s = (point : ℕ) × (point < 2 ^ n) × (in_cube r point ≡ true) × (in_cube s point ≡ true)

-- at an output, the row `a` says 1 and the row `b` says 0, and they share a point
pub record IsClashOf (n : ℕ) (a b : Row) (c : Clash) : Type 0 where
  pub first : 1 ≤ c.output
  pub on : divides (2 ^ (c.output - 1)) a.on ≡ true
  pub off : divides (2 ^ (c.output - 1)) b.off ≡ true
  pub on_line : c.on_line ≡ a.line
  pub off_line : c.off_line ≡ b.line
  pub shared : SharePoint n a b

-- it holds of one of the rows
abbrev pub IsAmong : (Row → Clash → Type 0) → List Row → Clash → Type 0
IsAmong holds rows c = (r : Row) × Contains rows r × holds r c

-- at an output up to `outputs`, one of the rows `ons` says 1 and one of the rows `offs` says 0, and they share a point; in a
-- description both lists are its rows
pub record IsClash (n outputs : ℕ) (ons offs : List Row) (c : Clash) : Type 0 where
  pub on_row : Row
  pub off_row : Row
  pub first : 1 ≤ c.output
  pub last : c.output ≤ outputs
  pub on : Contains (on_rows c.output ons) on_row
  pub off : Contains (off_rows c.output offs) off_row
  pub on_line : c.on_line ≡ on_row.line
  pub off_line : c.off_line ≡ off_row.line
  pub shared : SharePoint n on_row off_row

-- the order: by output, then by on line, then by off line
abbrev pub IsNotAfter : Clash → Clash → Type 0
IsNotAfter c d = (c.output < d.output) ⊎ ((c.output ≡ d.output) × ((c.on_line < d.on_line) ⊎ ((c.on_line ≡ d.on_line) × (c.off_line ≤ d.off_line))))

-- the least of the clashes of which a fact holds
pub record IsLeastOf (holds : Clash → Type 0) (c : Clash) : Type 0 where
  pub clash : holds c
  pub least : (d : Clash) → holds d → IsNotAfter c d

-- the least of them, or none where there is none
abbrev pub Answers : (Clash → Type 0) → Option Clash → Type 0
Answers holds None = (c : Clash) → holds c → ⊥
Answers holds (Some c) = IsLeastOf holds c

-- the same of those at an output up to `outputs`
abbrev pub AnswersUpTo : ℕ → (Clash → Type 0) → Option Clash → Type 0
AnswersUpTo outputs holds = Answers (λ c. (c.output ≤ outputs) × holds c)
