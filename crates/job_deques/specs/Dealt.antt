-- Which number is dealt to which deque, and seats as they are made.
use Rattle.std.specs.Prelude.{ℕ, zero, suc, ◌+◌, ◌%◌, ◌==◌, cond, ltb, List, [], ◌∷◌, ◌++◌}
use Rattle.std.specs.Prelude.{◌≡◌, ◌<◌, get_or, length, map}
use mathlib.Core.Option.{some}
use lib.ListN.{get_elem?}
use Rattle.job_deques.specs.declared.seat.Seat.{Seat}
use Rattle.job_deques.specs.declared.view.TheConstants.{ALL_PARTS}
use Rattle.job_deques.specs.Rule.{hold}
use Rattle.job_deques.specs.Seats.{Layout, AreWays, own_view, own_deque, took}

-- of the first n numbers those that are dealt to the deque of the number j: each goes to that of its rest
abbrev pub dealt : ℕ → ℕ → ℕ → List ℕ
dealt total j zero = []
dealt total j (suc n) = dealt total j n ++ cond (n % total == j) (n ∷ []) []

-- the first n numbers are dealt
abbrev pub numbered : Layout → ℕ → Layout
numbered l n = record l { pushed = λ j. dealt l.total j n }

-- seats by number, whose deques have no number, and which have no ways
abbrev pub AreFresh : List Seat → Type 0
AreFresh seats = (i : ℕ) (d : Seat) → i < length seats
    → ((get_or seats i d).at ≡ i) × (own_view (get_or seats i d).own ≡ hold ALL_PARTS [] []) × (length (get_or seats i d).ways.items ≡ 0)

-- the deques of the seats, to which so many numbers are dealt
abbrev pub layout_of : List Seat → ℕ → Layout
layout_of seats count = record {
  count = count;
  total = length seats;
  name = λ i. get_elem? (map (λ s. own_deque s.own) seats) i;
  pushed = λ j. dealt (length seats) j count;
}

-- the seat of the number i before the start, with ways to the first deques, so many. So many parts of its own deque are with others
pub record IsSet (l : Layout) (i ways owed : ℕ) (s : Seat) : Type 0 where
  pub number : s.at ≡ i
  pub name : l.name i ≡ some (own_deque s.own)
  pub pushed : (own_view s.own).pushed ≡ l.pushed i
  pub parts : (own_view s.own).parts + owed ≡ ALL_PARTS
  pub many : length s.ways.items ≡ ways
  pub each : AreWays l s.ways.items
  pub idle : (x : ℕ) → took s x ≡ 0

-- seats by number, of which each has so many ways and owes so many parts
pub record AreSet (l : Layout) (ways owed : ℕ → ℕ) (seats : List Seat) : Type 0 where
  pub total : length seats ≡ l.total
  pub each : (i : ℕ) (d : Seat) → i < length seats → IsSet l i (ways i) (owed i) (get_or seats i d)

-- no seat has a way, and each has a way to each deque
abbrev pub AreApart : Layout → List Seat → Type 0
AreApart l = AreSet l (λ _. 0) (λ _. 0)

abbrev pub AreJoined : Layout → List Seat → Type 0
AreJoined l = AreSet l (λ _. l.total) (λ _. l.total)

-- the seats before the number i have all ways, and that of the number i those to the first j deques
abbrev pub AreLending : Layout → ℕ → ℕ → List Seat → Type 0
AreLending l i j = AreSet l (λ k. cond (ltb k i) l.total (cond (k == i) j 0)) (λ k. i + cond (ltb k j) 1 0)
