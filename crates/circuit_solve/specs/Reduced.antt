-- The points where a polynomial is 1, least polynomials with the values of given ones at points, and the families that finding them needs.
use Rattle.std.specs.Prelude.{ℕ, List, ◌∷◌, ◌++◌}
use Rattle.lattice.specs.Family.{Family, minus_of, power}
use Rattle.lattice.specs.Interpolation.{interpolate}
use Rattle.lattice.specs.Polynomial.{ones_of}
use Rattle.lattice.specs.WorkingLists.{interpolation_list, ones_list}

-- the least polynomial that is 1 at the points where the given one is, and 0 at the others
unfoldable pub reduced : ℕ → (points given : Family) → Family
reduced n points given = let ones = ones_of n given points in interpolate n (minus_of n points ones) ones

-- ---- the families that are needed

-- of all points, and of those where the polynomial is 1
abbrev pub points_list : ℕ → Family → List Family
points_list n p = power n ∷ ones_list n p (power n)

-- of the points where the given one is 1, of the others, and of the least one
abbrev pub values_list : ℕ → (points given : Family) → List Family
values_list n points given =
    let ones = ones_of n given points in
    ones_list n given points ++ ones ∷ minus_of n points ones ∷ interpolation_list n (minus_of n points ones) ones
