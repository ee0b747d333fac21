-- What contracts see of the machine: the words of its table and of its cache, and its seats.
use Rattle.std.specs.Prelude.{ℕ, Bool, List}
use Rattle.lattice.specs.declared.entry.Entry.{Entry}
use Rattle.node_store.specs.declared.store.Handle.{Handle}

-- a seat: whether it lives, the slots that it has met with their words, and the handles that it knows
pub record SeatState : Type 0 where
  pub live : Bool
  pub met : List Entry
  pub known : List Handle

-- a table of 2 ^ bits node words over so many variables, its cache words, and its seats, numbered in the order in which they were made
pub record Machine : Type 0 where
  pub bits : ℕ
  pub vars : ℕ
  pub words : List ℕ
  pub cache : List ℕ
  pub seats : List SeatState
