-- What the tests say of handles.
use Rattle.std.specs.Prelude.{ℕ}
use Rattle.lattice.specs.Family.{Family, IsFamily}
use Rattle.node_store.specs.Stores.{State, Denotes}
use Rattle.node_store.specs.declared.store.Handle.{Handle}

-- the handle is that of a family over the last variables, so many of them
abbrev pub IsOver : State → ℕ → Handle → Type 0
IsOver s count h = (f : Family) × Denotes s h f × IsFamily count f
