-- The seats of a hand, what was taken with them, and how their ways are given back.
use Rattle.std.specs.Prelude.{◌≡◌, ℕ, zero, suc, ◌+◌, ◌<◌, ◌≤◌, ◌==◌, cond, List, [], ◌∷◌, ◌++◌, length, map}
use Rattle.std.specs.List.{All, sum_by}
use Rattle.job_counter.specs.Numbers.{times}
use Rattle.job_deques.specs.declared.way.Way.{Way}
use Rattle.job_deques.specs.declared.seat.Seat.{Seat}
use Rattle.job_deques.specs.declared.view.TheConstants.{ALL_PARTS}
use Rattle.job_deques.specs.Seats.{Layout, IsTaking, IsWay, parts_of, first_parts, took, all_took, way_view}

-- the numbers of the seats in order, and all that there are
abbrev pub places : List Seat → List ℕ
places seats = map (λ s. s.at) seats

abbrev pub numbers_below : ℕ → List ℕ
numbers_below zero = []
numbers_below (suc n) = numbers_below n ++ n ∷ []

-- how often x was pushed to the deques of these numbers
abbrev pub pushed_to : Layout → ℕ → List ℕ → ℕ
pushed_to l x numbers = sum_by (λ j. times x (l.pushed j)) numbers

-- the seats at work have the parts of each deque that they had at the start
pub record AreTaking (l : Layout) (seats : List Seat) : Type 0 where
  pub some : 0 < l.total
  pub small : l.total ≤ ALL_PARTS
  pub few : length (places seats) ≤ l.total
  pub each : All (IsTaking l) seats
  pub parts : (j : ℕ) → j < l.total → sum_by (parts_of j) seats ≡ sum_by (first_parts l j) (places seats)

-- all seats, in order
pub record AreWhole (l : Layout) (seats : List Seat) : Type 0 where
  pub of : AreTaking l seats
  pub whole : places seats ≡ numbers_below l.total

-- the seat took nothing and has all its ways
pub record IsUnused (l : Layout) (s : Seat) : Type 0 where
  pub parts : (j : ℕ) → j < l.total → parts_of j s ≡ first_parts l j s.at
  pub none : (x : ℕ) → took s x ≡ 0

-- the seat has no way
abbrev pub HasNoWay : Seat → Type 0
HasNoWay s = length s.ways.items ≡ 0

-- how many ways the seats have
abbrev pub ways_in : List Seat → ℕ
ways_in seats = sum_by (λ s. length s.ways.items) seats

-- one of the seats gave a way to the deque of the number j
pub record GaveWay (j : ℕ) (w : Way) (old new : List Seat) : Type 0 where
  pub places : places new ≡ places old
  pub way : (l : Layout) → All (IsTaking l) old → (j < l.total) × IsWay l j w
  pub each : (l : Layout) → All (IsTaking l) old → All (IsTaking l) new
  pub parts : (i : ℕ) → sum_by (parts_of i) old ≡ sum_by (parts_of i) new + cond (j == i) 1 0
  pub took : (x : ℕ) → all_took old x ≡ all_took new x + times x (way_view w).taken
  pub fewer : ways_in old ≡ ways_in new + 1

-- the owner of the deque of the number j is there for a way to it
pub record CanTakeBack (l : Layout) (j : ℕ) (w : Way) (seats : List Seat) : Type 0 where
  pub small : l.total ≤ ALL_PARTS
  pub each : All (IsTaking l) seats
  pub whole : places seats ≡ numbers_below l.total
  pub less : j < l.total
  pub way : IsWay l j w

-- the owner of the deque of the number j took in a way
pub record TookBack (l : Layout) (j : ℕ) (w : Way) (old new : List Seat) : Type 0 where
  pub places : places new ≡ places old
  pub each : All (IsTaking l) new
  pub parts : (i : ℕ) → sum_by (parts_of i) new ≡ sum_by (parts_of i) old + cond (j == i) 1 0
  pub took : (x : ℕ) → all_took new x ≡ all_took old x + times x (way_view w).taken
  pub same : ways_in new ≡ ways_in old
