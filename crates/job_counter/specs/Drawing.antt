-- What contracts see of a drawer, and what the calls of its counter make of it.
use Rattle.std.specs.Prelude.{◌≡◌, ℕ, ◌+◌, ◌-◌, ◌/◌, List, [], ◌∷◌, ◌++◌, cond, ltb, replicate}
use Rattle.atomic_table.specs.Seated.{TableId}
use Rattle.job_counter.specs.Numbers.{times}
use Rattle.job_counter.specs.declared.counter.Counter.{Counter}
use Rattle.job_counter.specs.declared.counter.TheConstants.{ALL_PARTS}
use Rattle.job_counter.specs.declared.counter.Drawer.{Drawer}

-- of which counter a drawer is, its parts, and the numbers that it drew, in order
pub record Drawing : Type 0 where
  pub counter : TableId
  pub parts : ℕ
  pub drawn : List ℕ

unfoldable pub drawing : Drawer → Drawing
drawing d = record { counter = d.seat.table_id; parts = d.seat.me.0.parts; drawn = d.seat.me.0.drawn }

-- the name of a counter
unfoldable pub name : Counter → TableId
name c = c.table.shared.table_id

-- the drawer is of the counter
abbrev pub IsOf : Drawer → Counter → Type 0
IsOf d c = (drawing d).counter ≡ name c

-- all parts, and no number
abbrev pub first_drawing : TableId → Drawing
first_drawing c = record { counter = c; parts = ALL_PARTS; drawn = [] }

-- one number more
abbrev pub more_drawn : Drawing → ℕ → Drawing
more_drawn d number = record d { drawn = d.drawn ++ number ∷ [] }

-- the parts halved: the first keeps the numbers, and the second has none
abbrev pub left_half : Drawing → Drawing
left_half d = record d { parts = d.parts - d.parts / 2 }

abbrev pub right_half : Drawing → Drawing
right_half d = record d { parts = d.parts / 2; drawn = [] }

-- the parts and the numbers of both
abbrev pub together : Drawing → Drawing → Drawing
together d e = record d { parts = d.parts + e.parts; drawn = d.drawn ++ e.drawn }

-- how often the drawer drew the number, if that is below the count
abbrev pub took_below : ℕ → Drawer → ℕ → ℕ
took_below count d x = cond (ltb x count) (times x (drawing d).drawn) 0

-- so many zeros
unfoldable pub zeros : ℕ → List ℕ
zeros n = replicate n 0
