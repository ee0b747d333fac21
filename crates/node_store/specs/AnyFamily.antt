-- Stores that may be asked for any family, as tests make them.
use Rattle.std.specs.List.{flat_map}
use Rattle.std.specs.Prelude.{◌≡◌, ℕ, zero, suc, List, [], ◌∷◌, map}
use Rattle.lattice.specs.Family.{Family, IsFamily}
use Rattle.lattice.specs.Cofactors.{join}
use Rattle.node_store.specs.Stores.{State, IsPlanned}

-- every family of numbers below 2 ^ d
unfoldable pub every_family : ℕ → List Family
every_family zero = [] ∷ (0 ∷ []) ∷ []
every_family (suc d) = flat_map (λ lo. map (join d lo) (every_family d)) (every_family d)

-- the plan of a store over so many variables has every family
pub record MayHoldAny (vars : ℕ) (s : State) : Type 0 where
  pub vars_are : s.vars ≡ vars
  pub planned : (f : Family) → IsFamily vars f → IsPlanned s f
