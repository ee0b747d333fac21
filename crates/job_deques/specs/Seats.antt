-- What a worker took, and what is fixed of a dealing's deques.
use Rattle.std.specs.Prelude.{◌≡◌, ℕ, ◌+◌, ◌-◌, ◌<◌, ◌≤◌, ◌==◌, ltb, cond, List, get_or, length}
use Rattle.std.specs.List.{sum_by}
use Rattle.std.specs.Global.{Global}
use mathlib.Core.Option.{Option, some}
use Rattle.crossbeam_deque.specs.Handles.{view, worker_view, worker_deque, stealer_deque}
use Rattle.job_counter.specs.Numbers.{times}
use Rattle.job_deques.specs.Rule.{IsWithin}
use Rattle.job_deques.specs.declared.view.Hold.{Hold}
use Rattle.job_deques.specs.declared.view.TheConstants.{ALL_PARTS}
use Rattle.job_deques.specs.declared.way.Way.{Way}
use Rattle.job_deques.specs.declared.own.Own.{Own}
use Rattle.job_deques.specs.declared.seat.Seat.{Seat}

-- how many numbers and deques there are, and for each deque which one it is, and the numbers that were pushed to it
pub record Layout : Type 0 where
  pub count : ℕ
  pub total : ℕ
  pub name : ℕ → Option ((ℕ × ℕ) × Global)
  pub pushed : ℕ → List ℕ

-- which deque a way and an own deque are of, and what they know
abbrev pub way_deque : Way → (ℕ × ℕ) × Global
way_deque w = stealer_deque w.thief

abbrev pub way_view : Way → Hold
way_view w = view w.taker

abbrev pub own_deque : Own → (ℕ × ℕ) × Global
own_deque o = worker_deque o.owner

abbrev pub own_view : Own → Hold
own_view o = worker_view o.owner

-- how often the worker took x, from others and at all
abbrev pub stole : List Way → ℕ → ℕ
stole ways x = sum_by (λ w. times x (way_view w).taken) ways

abbrev pub took : Seat → ℕ → ℕ
took s x = times x (own_view s.own).taken + stole s.ways.items x

abbrev pub all_took : List Seat → ℕ → ℕ
all_took seats x = sum_by (λ s. took s x) seats

-- a way to the deque of the number j, with one part
pub record IsWay (l : Layout) (j : ℕ) (w : Way) : Type 0 where
  pub name : l.name j ≡ some (way_deque w)
  pub pushed : (way_view w).pushed ≡ l.pushed j
  pub within : IsWithin (way_view w)
  pub part : (way_view w).parts ≡ 1

-- ways by the numbers of their deques
abbrev pub AreWays : Layout → List Way → Type 0
AreWays l ways = (j : ℕ) (d : Way) → j < length ways → IsWay l j (get_or ways j d)

-- a seat at work, and one that gave back some of its ways or all of them. It takes nothing by the way to its own deque
pub record IsTaking (l : Layout) (s : Seat) : Type 0 where
  pub at : s.at < l.total
  pub name : l.name s.at ≡ some (own_deque s.own)
  pub pushed : (own_view s.own).pushed ≡ l.pushed s.at
  pub within : IsWithin (own_view s.own)
  pub few : length s.ways.items ≤ l.total
  pub ways : AreWays l s.ways.items
  pub idle : (x : ℕ) (d : Way) → s.at < length s.ways.items → times x (way_view (get_or s.ways.items s.at d)).taken ≡ 0

-- each number that was pushed is below the count
abbrev pub AreBelow : Layout → Type 0
AreBelow l = (j : ℕ) (x : ℕ) → j < l.total → 0 < times x (l.pushed j) → x < l.count

-- a seat that took a number, or none, has its parts and its ways as before
pub record StaysAtWork (s t : Seat) : Type 0 where
  pub at : t.at ≡ s.at
  pub parts : (own_view t.own).parts ≡ (own_view s.own).parts
  pub many : length t.ways.items ≡ length s.ways.items
  pub taking : (l : Layout) → IsTaking l s → IsTaking l t

-- the parts that a seat has of the deque of the number j, and those that one has before it took anything: its owner keeps what it
-- did not lend, and lent one part to each seat, its own among them
abbrev pub parts_of : ℕ → Seat → ℕ
parts_of j s = cond (s.at == j) (own_view s.own).parts 0 + cond (ltb j (length s.ways.items)) 1 0

abbrev pub first_parts : Layout → ℕ → ℕ → ℕ
first_parts l j at = cond (at == j) (ALL_PARTS - l.total) 0 + 1
