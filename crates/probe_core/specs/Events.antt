-- The events of the machine: which may be taken, what each does, and what it sees.
use Rattle.std.specs.Prelude.{◌≡◌, ◌≢◌, ℕ, ◌+◌, ◌-◌, ◌^◌, ◌<◌, ◌≤◌, Bool, true, false, ◌==◌, if◌then◌else◌, List, [], ◌∷◌, ◌++◌, length}
use Rattle.std.specs.Prelude.{replicate, slice_index, slice_index_or, slice_set}
use Rattle.std.specs.List.{Contains}
use Rattle.lattice.specs.declared.entry.Entry.{Entry}
use Rattle.lattice.specs.declared.entry.Entry.TheVariants.{Met}
use Rattle.lattice.specs.NodeWords.{var_of, lo_of, hi_of, place, cache_bits, key_at, result_of}
use Rattle.lattice.specs.CacheWords.{IsTrueWord}
use Rattle.lattice.specs.Tables.{var_at}
use Rattle.node_store.specs.declared.store.Handle.{Handle}
use Rattle.probe_core.specs.declared.event.Event.{Event}
use Rattle.probe_core.specs.declared.event.Event.TheVariants.{Load, Exchange, CacheLoad, CacheStore, Split, Join}
use Rattle.probe_core.specs.declared.event.Seen.{Seen}
use Rattle.probe_core.specs.Machines.{SeatState, Machine}
use Rattle.probe_core.specs.Seats.{knows, knows_key, met_more, told_more, first_seat, twin, joined, ended}

-- a machine with a vacant table, a vacant cache and one seat
abbrev pub start : ℕ → ℕ → Machine
start bits vars = record {
  bits = bits;
  vars = vars;
  words = replicate (2 ^ bits) 0;
  cache = replicate (2 ^ cache_bits bits) 0;
  seats = first_seat ∷ [];
}

-- where there is no seat of a number
abbrev pub no_seat : SeatState
no_seat = record { live = false; met = []; known = [] }

-- the seat of a number
abbrev pub seat_at : Machine → ℕ → SeatState
seat_at s id = slice_index_or s.seats id no_seat

abbrev pub IsLive : Machine → ℕ → Type 0
IsLive s id = (seat_at s id).live ≡ true

-- ---- which events may be taken

-- the place was met with another word
abbrev pub HasPassed : List Entry → ℕ → ℕ → Type 0
HasPassed met at w = (other : ℕ) × Contains met (Met (at + 2) other) × (other ≢ w)

-- the place is on the word's probe path, and each place before it there was met with another word
pub record HasProbed (bits : ℕ) (met : List Entry) (at w : ℕ) : Type 0 where
  pub steps : ℕ
  pub within : steps < 2 ^ bits
  pub there : place bits w steps ≡ at
  pub passed : (e : ℕ) → e < steps → HasPassed met (place bits w e) w

-- the word is that of a node over known children with later variables
pub record IsOverKnown (vars : ℕ) (words : List ℕ) (known : List Handle) (w : ℕ) : Type 0 where
  pub first : 1 ≤ var_of w
  pub last : var_of w ≤ vars
  pub full : hi_of w ≢ 0
  pub low : knows known (lo_of w) ≡ true
  pub high : knows known (hi_of w) ≡ true
  pub low_later : var_of w < var_at vars words (lo_of w)
  pub high_later : var_of w < var_at vars words (hi_of w)

-- the seat may exchange the word at the place
pub record MayExchange (s : Machine) (seat : SeatState) (at w : ℕ) : Type 0 where
  pub node : IsOverKnown s.vars s.words seat.known w
  pub probed : HasProbed s.bits seat.met at w

-- a seat that knows these handles may store the cache word at the place: it is true there, and the handles of its key and of its
-- result are known
pub record MayStore (s : Machine) (known : List Handle) (at w : ℕ) : Type 0 where
  pub within : at < 2 ^ cache_bits s.bits
  pub is_true : IsTrueWord (cache_bits s.bits) s.vars s.words at w
  pub key : knows_key known (key_at (cache_bits s.bits) at w) ≡ true
  pub result : knows known (result_of w) ≡ true

-- the event stores a cache word, whose truth no look at the machine can tell
abbrev pub is_store : Event → Bool
is_store (CacheStore id at w) = true
is_store _ = false

-- the event may be taken
abbrev pub MayTake : Machine → Event → Type 0
MayTake s (Load id at) = IsLive s id × (at < 2 ^ s.bits)
MayTake s (Exchange id at w) = IsLive s id × MayExchange s (seat_at s id) at w
MayTake s (CacheLoad id at) = IsLive s id × (at < 2 ^ cache_bits s.bits)
MayTake s (CacheStore id at w) = IsLive s id × MayStore s (seat_at s id).known at w
MayTake s (Split id) = IsLive s id × (length s.seats < 2 ^ 32 - 1)
MayTake s (Join id other) = IsLive s id × IsLive s other × (id ≢ other)

-- ---- what they do

-- the seat of a number meets the slot of a place with this word
abbrev pub meets : Machine → ℕ → ℕ → ℕ → Machine
meets s id at w = record s { seats = slice_set s.seats id (met_more (seat_at s id) at w) }

-- the place takes the word
abbrev pub takes : Machine → ℕ → ℕ → Machine
takes s at w = record s { words = slice_set s.words at w }

-- the seat of a number sees this cache word at the place
abbrev pub looks : Machine → ℕ → ℕ → ℕ → Machine
looks s id at w =
    record s { seats = slice_set s.seats id (told_more (seat_at s id) (key_at (cache_bits s.bits) at w) (result_of w)) }

-- the state after an event
abbrev pub after : Machine → Event → Machine
after s (Load id at) = if slice_index s.words at == 0 then s else meets s id at (slice_index s.words at)
after s (Exchange id at w) =
    if slice_index s.words at == 0 then takes (meets s id at w) at w else meets s id at (slice_index s.words at)
after s (CacheLoad id at) = if slice_index s.cache at == 0 then s else looks s id at (slice_index s.cache at)
after s (CacheStore id at w) = record s { cache = slice_set s.cache at w }
after s (Split id) = record s { seats = s.seats ++ twin (seat_at s id) ∷ [] }
after s (Join id other) =
    let both = joined (seat_at s id) (seat_at s other) in
    record s { seats = slice_set (slice_set s.seats id both) other (ended (seat_at s other)) }

-- what an event sees, before which the state is s
abbrev pub seen : Machine → Event → Seen
seen s (Load id at) = record { word = slice_index s.words at; won = false }
seen s (Exchange id at w) =
    if slice_index s.words at == 0 then record { word = w; won = true } else record { word = slice_index s.words at; won = false }
seen s (CacheLoad id at) = record { word = slice_index s.cache at; won = false }
seen s (CacheStore id at w) = record { word = w; won = false }
seen s (Split id) = record { word = slice_index s.words 0; won = false }
seen s (Join id other) = record { word = slice_index s.words 0; won = false }

-- ---- lists of events

-- the state after events in turn
abbrev pub after_all : Machine → List Event → Machine
after_all s [] = s
after_all s (e ∷ es) = after_all (after s e) es

-- each event may be taken at its turn
abbrev pub MayTakeAll : Machine → List Event → Type 0
MayTakeAll s [] = Unit {0}
MayTakeAll s (e ∷ es) = MayTake s e × MayTakeAll (after s e) es
