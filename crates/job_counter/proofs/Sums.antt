-- Sums over what the passes of a table know.
use Rattle.std.proofs.Common.{◌≡◌, ℕ, zero, suc, ◌+◌, ◌<◌, List, [], ◌∷◌, length, get_or, set, sym, arith}
use Rattle.std.specs.List.{sum_by}
use Rattle.std.proofs.lemmas.List.Sums.{sum_by-set}
use mathlib.Core.Option.{some, some-ne-none, some-injective}
use lib.ListN.{get_elem?}

-- what is found in a list stands at its place
pub found : {V : Type 0} (l : List V) (i : ℕ) (v : V) → get_elem? l i ≡ some v → (i < length l) × (get_or l i v ≡ v)
found [] i v e = absurd (some-ne-none v (sym e))
found (x ∷ xs) zero v e = (omega arith, some-injective x v e)
found (x ∷ xs) (suc i) v e = let r = found xs i v e in (omega (arith, r.0), r.1)

-- a sum after one entry changed
pub total-set : {V : Type 0} (f : V → ℕ) (l : List V) (i : ℕ) (v w : V) → get_elem? l i ≡ some v
    → sum_by f (set l i w) + f v ≡ sum_by f l + f w
total-set f l i v w e = let at = found l i v e in grind (arith, sum_by-set f l i w v at.0)
