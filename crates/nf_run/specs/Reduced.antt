-- Least polynomials with the values of given ones, and the families that finding them needs.
use Rattle.std.specs.Prelude.{◌≡◌, ◌≢◌, ℕ, List, [], ◌∷◌, ◌++◌}
use Rattle.std.specs.List.{All}
use Rattle.lattice.specs.Family.{Family, IsFamily, family_where, has, minus_of}
use Rattle.lattice.specs.Interpolation.{interpolate}
use Rattle.lattice.specs.Polynomial.{IsLess, ones_of, value}
use Rattle.lattice.specs.WorkingLists.{interpolation_list, ones_list}

-- p has the values of the given polynomial at the points
abbrev pub HasValues : List ℕ → Family → Family → Type 0
HasValues points given p = All (λ a. value p a ≡ value given a) points

-- p is the least polynomial over n variables that does: every other one that does is greater
pub record IsReduced (n : ℕ) (points : List ℕ) (given p : Family) : Type 0 where
  pub family : IsFamily n p
  pub values : HasValues points given p
  pub least : (q : Family) → IsFamily n q → HasValues points given q → q ≢ p → IsLess p q

-- ---- by families

-- the polynomial of some terms
abbrev pub sum_of_terms : ℕ → List ℕ → Family
sum_of_terms n terms = family_where n (has terms)

-- the least polynomial that is 1 where the given one is 1 at the points, and 0 at the others
unfoldable pub reduced : ℕ → Family → Family → Family
reduced n given points = let ones = ones_of n given points in interpolate n (minus_of n points ones) ones

-- ---- the families that are needed

-- of each term, and of the terms up to it
unfoldable pub terms_from : ℕ → (before terms : List ℕ) → List Family
terms_from n before [] = []
terms_from n before (m ∷ terms) = (m ∷ []) ∷ sum_of_terms n (before ++ m ∷ []) ∷ terms_from n (before ++ m ∷ []) terms

abbrev pub terms_list : ℕ → List ℕ → List Family
terms_list n terms = terms_from n [] terms

-- of the points where the polynomial is 1, and of the least one
abbrev pub values_list : ℕ → Family → Family → List Family
values_list n given points =
    let ones = ones_of n given points in
    ones_list n given points ++ ones ∷ minus_of n points ones ∷ interpolation_list n (minus_of n points ones) ones

abbrev pub reduced_list : ℕ → List ℕ → Family → List Family
reduced_list n terms points = terms_list n terms ++ values_list n (sum_of_terms n terms) points
