-- The cubes of the rows that say something of an output, and a store that knows them all.
use Rattle.std.specs.Prelude.{ℕ, Bool, not, ◌&&◌, ◌==◌, cond, List, []}
use Rattle.std.specs.List.{AllZip}
use Rattle.lattice.specs.Family.{Family}
use Rattle.lattice.specs.Rows.{cube}
use Rattle.lattice.specs.declared.row.Row.{Row}
use Rattle.node_store.specs.Stores.{State, Denotes}
use Rattle.node_store.specs.declared.store.Handle.{Handle}

-- whether the row says something of an output
abbrev pub names_output : Row → Bool
names_output r = not (r.on == 0 && r.off == 0 && r.dc == 0)

-- the points of its cube, and no points where it says nothing
unfoldable pub used_cube : ℕ → Row → Family
used_cube n r = cond (names_output r) (cube n r) []

-- the store knows a handle for each row, in order, of the row's points
abbrev pub AreCubes : State → List Row → List Handle → Type 0
AreCubes s = AllZip (λ r h. Denotes s h (used_cube s.vars r))
