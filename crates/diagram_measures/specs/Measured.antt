-- What is measured of a polynomial and of its diagram, and the least member of a family.
use Rattle.std.specs.Prelude.{ℕ, max, count_ones, Option, None, Some, [], ◌∷◌, length}
use Rattle.lattice.specs.Family.{Family}
use Rattle.lattice.specs.WorkingLists.{working_set}

-- the greatest number of variables of a term, and 0 where there is none: a monomial has as many variables as its number has ones
unfoldable pub degree_of : Family → ℕ
degree_of [] = 0
degree_of (m ∷ ms) = max (count_ones m) (degree_of ms)

-- the number of distinct nodes of the diagram over n variables: of the subfamilies, among which the two constants are not
abbrev pub nodes_of : ℕ → Family → ℕ
nodes_of n f = length (working_set n (f ∷ []))

-- the least member, if there is any: the first one, since a family is the ascending list of its members
abbrev pub least_member_of : Family → Option ℕ
least_member_of [] = None
least_member_of (m ∷ ms) = Some m
