-- The rule of a deque: each number pushed to it stands in it, or in exactly one pass's list of numbers taken, once.
use Rattle.std.specs.Prelude.{◌≡◌, ℕ, ◌+◌, ◌-◌, ◌<◌, ◌≤◌, List, [], ◌++◌}
use Rattle.std.specs.List.{sum_by}
use mathlib.Core.Option.{some}
use lib.ListN.{get_elem?}
use Rattle.job_counter.specs.Numbers.{times}
use Rattle.job_deques.specs.declared.view.Hold.{Hold}
use Rattle.job_deques.specs.declared.view.TheConstants.{ALL_PARTS}

-- what a pass knows: its parts, the numbers that were pushed, and those that it took
abbrev pub hold : ℕ → List ℕ → List ℕ → Hold
hold parts pushed taken = record { parts = parts; pushed = pushed; taken = taken }

-- Each number that was pushed stands in the deque or in the list of one pass, as often as it was pushed. Each pass that has parts
-- knows the numbers that were pushed, and one that has none took nothing. Whoever pushes needs all parts, so nobody pushes once
-- there is a second pass
pub record Kept (items : List ℕ) (views : List Hold) : Type 0 where
  pub pushed : List ℕ
  pub parts : sum_by (λ v. v.parts) views ≡ ALL_PARTS
  pub known : (port : ℕ) (v : Hold) → get_elem? views port ≡ some v → 0 < v.parts → v.pushed ≡ pushed
  pub idle : (port : ℕ) (v : Hold) → get_elem? views port ≡ some v → v.parts ≡ 0 → v.taken ≡ []
  pub once : (x : ℕ) → times x pushed ≡ sum_by (λ v. times x v.taken) views + times x items

-- no number was taken more often than it was pushed
abbrev pub IsWithin : Hold → Type 0
IsWithin v = (x : ℕ) → times x v.taken ≤ times x v.pushed

-- the numbers join those that were pushed
abbrev pub Pushed : Hold → List ℕ → Hold → Type 0
Pushed v xs w = w ≡ hold v.parts (v.pushed ++ xs) v.taken

-- the numbers join those that the pass took
abbrev pub Took : Hold → List ℕ → Hold → Type 0
Took v xs w = (w ≡ hold v.parts v.pushed (v.taken ++ xs)) × IsWithin w

-- who has all parts and finds the deque empty took each number that was pushed, as often as it was pushed
abbrev pub TookAll : Hold → Type 0
TookAll v = v.parts ≡ ALL_PARTS → (x : ℕ) → times x v.taken ≡ times x v.pushed

-- one part for a second pass, which took nothing yet, and the parts and the numbers of both
abbrev pub without_part : Hold → Hold
without_part v = hold (v.parts - 1) v.pushed v.taken

abbrev pub one_part : Hold → Hold
one_part v = hold 1 v.pushed []

abbrev pub together : Hold → Hold → Hold
together v w = hold (v.parts + w.parts) v.pushed (v.taken ++ w.taken)
