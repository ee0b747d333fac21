-- What holds in every state that events lead to from a vacant table.
use Rattle.std.specs.Prelude.{◌≤◌, ℕ, List, take}
use Rattle.std.specs.List.{All}
use Rattle.lattice.specs.Tables.{KeepsWords}
use Rattle.lattice.specs.SoundTables.{IsSoundOn, IsSoundTable}
use Rattle.probe_core.specs.declared.event.Event.{Event}
use Rattle.probe_core.specs.Machines.{SeatState, Machine}
use Rattle.probe_core.specs.Seats.{numbers}
use Rattle.probe_core.specs.Events.{after_all}

-- what the seat met and knows is sound on the table
abbrev pub IsSoundSeat : Machine → SeatState → Type 0
IsSoundSeat s seat = IsSoundOn s.bits s.vars s.words seat.met (numbers seat.known)

-- the table is sound with its cache words, and each seat is
pub record IsSoundMachine (s : Machine) : Type 0 where
  pub table : IsSoundTable s.bits s.vars s.words s.cache
  pub seats : All (IsSoundSeat s) s.seats

-- the state is sound before the first event and after each one, and no later event changes the word of a filled slot
pub record IsLawful (s : Machine) (events : List Event) : Type 0 where
  pub sound : (n : ℕ) → IsSoundMachine (after_all s (take n events))
  pub keeps : (n m : ℕ) → n ≤ m → KeepsWords (after_all s (take n events)).words (after_all s (take m events)).words
