-- What a seat learns of the slots that it meets, of kept results, and of other seats.
use Rattle.std.specs.Prelude.{ℕ, ◌+◌, Bool, true, false, nat_lt, ◌==◌, ◌&&◌, ◌||◌, if◌then◌else◌, List, [], ◌∷◌, ◌++◌, map}
use Rattle.std.specs.List.{list_any}
use Rattle.lattice.specs.declared.entry.Entry.TheVariants.{Met}
use Rattle.lattice.specs.declared.op.Op.TheVariants.{Least}
use Rattle.lattice.specs.NodeWords.{var_of, lo_of, hi_of}
use Rattle.lattice.specs.CacheWords.{number_of}
use Rattle.node_store.specs.declared.store.Handle.{Handle}
use Rattle.probe_core.specs.Machines.{SeatState}

-- the handle with this number
abbrev pub handle : ℕ → Handle
handle h = record { 0 = h }

-- the numbers of handles
abbrev pub numbers : List Handle → List ℕ
numbers known = map (λ (k : Handle). k.0) known

-- the handle with this number is among the known ones
abbrev pub knows : List Handle → ℕ → Bool
knows known h = list_any (λ k. k.0 == h) known

-- the known handles, with one more where it is new
abbrev pub learned : List Handle → ℕ → List Handle
learned known h = if knows known h then known else (known ++ handle h ∷ [])

-- what a slot teaches by its word: where its handle is known the handles of both children, and where these are known its
-- own handle
abbrev pub taught : List Handle → ℕ → ℕ → List Handle
taught known slot w =
    if knows known slot then learned (learned known (lo_of w)) (hi_of w)
    else (if knows known (lo_of w) && knows known (hi_of w) then learned known slot else known)

-- the handles of a key are known: that of its first operand, and of its second one where this is a family, as it is for the
-- operations up to Least
abbrev pub knows_key : List Handle → ℕ → Bool
knows_key known key = knows known (lo_of key) && (nat_lt (number_of Least) (var_of key) || knows known (hi_of key))

-- the known handles after a look at the result of a key: it is learned where the handles of the key are known
abbrev pub told : List Handle → ℕ → ℕ → List Handle
told known key result = if knows_key known key then learned known result else known

-- the known handles with those of another list
abbrev pub united : List Handle → List Handle → List Handle
united known [] = known
united known (h ∷ hs) = united (learned known h.0) hs

-- a seat after it met the place's slot with this word
abbrev pub met_more : SeatState → ℕ → ℕ → SeatState
met_more seat at w = record seat { met = seat.met ++ Met (at + 2) w ∷ []; known = taught seat.known (at + 2) w }

-- a seat after it saw the result of a key
abbrev pub told_more : SeatState → ℕ → ℕ → SeatState
told_more seat key result = record seat { known = told seat.known key result }

-- the first seat: it knows the two constants
abbrev pub first_seat : SeatState
first_seat = record { live = true; met = []; known = handle 0 ∷ handle 1 ∷ [] }

-- a new seat that knows what another one knows, with an empty history of its own
abbrev pub twin : SeatState → SeatState
twin seat = record { live = true; met = []; known = seat.known }

-- a seat that knows what the other one knows besides, and takes in its history
abbrev pub joined : SeatState → SeatState → SeatState
joined seat other = record seat { met = seat.met ++ other.met; known = united seat.known other.known }

-- the seat at its end
abbrev pub ended : SeatState → SeatState
ended seat = record seat { live = false }
