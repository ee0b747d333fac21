-- Sets of polynomials over n variables: the ideal of points, intersections and sums, leads and reduced bases.
use Rattle.std.specs.Prelude.{◌≡◌, ◌≢◌, ℕ, true, false, ◌↔◌, List}
use Rattle.std.specs.List.{AllZip}
use Rattle.std.specs.List.Sorted.{IsStrictlyIncreasing}
use Rattle.lattice.specs.Family.{Family, IsFamily, divides, has, sum_of}
use Rattle.lattice.specs.Polynomial.{IsGreatest, Vanishes}

-- a set of polynomials: which ones are members
abbrev pub Polynomials : Type 1
Polynomials = Family → Type 0

-- the polynomials that vanish on the points
abbrev pub Ideal : ℕ → List ℕ → Polynomials
Ideal n points p = IsFamily n p × Vanishes p points

-- the common members of two sets
abbrev pub Intersection : Polynomials → Polynomials → Polynomials
Intersection J K p = J p × K p

-- every sum of a member of the one and a member of the other
abbrev pub Sum : ℕ → Polynomials → Polynomials → Polynomials
Sum n J K p = (q : Family) × (r : Family) × J q × K r × (p ≡ sum_of n q r)

-- m is the greatest monomial of a member
abbrev pub IsTop : Polynomials → ℕ → Type 0
IsTop J m = (p : Family) × J p × IsGreatest p m

-- m is the greatest monomial of a member, and none of its divisors other than itself is
pub record IsLeadOf (J : Polynomials) (m : ℕ) : Type 0 where
  pub top : IsTop J m
  pub least : (d : ℕ) → divides d m ≡ true → d ≢ m → ¬ IsTop J d

-- e is a member whose greatest monomial is m, and none of whose other monomials is divided by a lead
pub record IsElementOf (J : Polynomials) (m : ℕ) (e : Family) : Type 0 where
  pub member : J e
  pub greatest : IsGreatest e m
  pub reduced : (k l : ℕ) → has e k ≡ true → k ≢ m → IsLeadOf J l → divides l k ≡ false

-- one such member for each lead, by ascending lead
pub record IsReducedBasisOf (J : Polynomials) (basis : List Family) : Type 0 where
  pub leads : List ℕ
  pub ascends : IsStrictlyIncreasing leads
  pub all_leads : (m : ℕ) → (has leads m ≡ true) ↔ IsLeadOf J m
  pub elements : AllZip (IsElementOf J) leads basis
