-- Laws of ideals of points. The functions of src/laws.rt have them as their contracts.
use Rattle.std.specs.Prelude.{ℕ, ◌^◌, ◌<◌, ◌↔◌, List}
use Rattle.lattice.specs.Basis.{IsLead, IsReducedBasis}
use Rattle.lattice.specs.Family.{Family, IsFamily, inter_of, union_of}
use Rattle.lattice.specs.Ideals.{Ideal, Intersection, IsLeadOf, IsReducedBasisOf, Sum}

-- What is common to the ideals of two sets of points vanishes on both.
abbrev pub IntersectionIsOfUnion : Type 0
IntersectionIsOfUnion = (n : ℕ) (points others : Family) → IsFamily n points → IsFamily n others → (p : Family)
    → Intersection (Ideal n points) (Ideal n others) p ↔ Ideal n (union_of n points others) p

-- What vanishes on the common points of two sets is a sum of what vanishes on the one and what vanishes on the other.
abbrev pub SumIsOfIntersection : Type 0
SumIsOfIntersection = (n : ℕ) (points others : Family) → IsFamily n points → IsFamily n others → (p : Family)
    → Sum n (Ideal n points) (Ideal n others) p ↔ Ideal n (inter_of n points others) p

-- The leads of the ideal of points are the leads of the points, and its reduced bases are those of the points.
abbrev pub LeadsOfIdeal : Type 0
LeadsOfIdeal = (n : ℕ) (points : Family) → IsFamily n points → (m : ℕ) → IsLeadOf (Ideal n points) m ↔ ((m < 2 ^ n) × IsLead n points m)

abbrev pub BasisOfIdeal : Type 0
BasisOfIdeal = (n : ℕ) (points : Family) → IsFamily n points → (basis : List Family)
    → IsReducedBasisOf (Ideal n points) basis ↔ IsReducedBasis n points basis
