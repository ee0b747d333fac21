-- The rule of the counter: the numbers that its seats drew are those below its word, each once.
use Rattle.std.specs.Prelude.{◌≡◌, ℕ, ◌+◌, ◌-◌, ◌/◌, ◌≤◌, List, [], ◌∷◌, ◌++◌, length, slice_index}
use Rattle.std.specs.List.{sum_by}
use mathlib.Core.Option.{some}
use lib.ListN.{get_elem?}
use Rattle.atomic_table.specs.Table.{State, Me}
use Rattle.job_counter.specs.Numbers.{times, once_below}
use Rattle.job_counter.specs.declared.counter.TheConstants.{ALL_PARTS}
use Rattle.job_counter.specs.declared.view.Hand.{Hand}

-- what a seat knows: so many parts, and the numbers drawn
abbrev pub hand : ℕ → List ℕ → Hand
hand parts drawn = record { parts = parts; drawn = drawn }

-- the seats have all parts together, and each drew no more numbers than it has parts. As many numbers were drawn as the word
-- says: each number below the word once, by one seat, and no other number
pub record Rule (s : State (Unit {0}) Hand) : Type 0 where
  pub one_word : length s.words ≡ 1
  pub parts : sum_by (λ v. v.parts) s.views ≡ ALL_PARTS
  pub within : (id : ℕ) (v : Hand) → get_elem? s.views id ≡ some v → length v.drawn ≤ v.parts
  pub count : sum_by (λ v. length v.drawn) s.views ≡ slice_index s.words 0
  pub once : (x : ℕ) → sum_by (λ v. times x v.drawn) s.views ≡ once_below x (slice_index s.words 0)

-- what two seats know after one was split, and what one knows after it took in another
abbrev pub first_half : Hand → Hand
first_half v = hand (v.parts - v.parts / 2) v.drawn

abbrev pub second_half : Hand → Hand
second_half v = hand (v.parts / 2) []

abbrev pub both_hands : Hand → Hand → Hand
both_hands v w = hand (v.parts + w.parts) (v.drawn ++ w.drawn)

-- the number that was found is drawn, and those that the seat drew before are below it, each once
abbrev pub Drew : Me (Unit {0}) Hand → ℕ → Me (Unit {0}) Hand → Type 0
Drew before found after =
    (after.1 ≡ before.1) × (after.0 ≡ hand before.0.parts (before.0.drawn ++ found ∷ []))
    × ((x : ℕ) → times x before.0.drawn ≤ once_below x found)

-- a seat with all parts drew as many numbers as the word that was found: each number below it once, and no other
abbrev pub Counted : Me (Unit {0}) Hand → ℕ → Me (Unit {0}) Hand → Type 0
Counted before found after =
    (after ≡ before) × (before.0.parts ≡ ALL_PARTS → length before.0.drawn ≡ found)
    × (before.0.parts ≡ ALL_PARTS → (x : ℕ) → times x before.0.drawn ≡ once_below x found)
