-- Laws that the work stands on. The functions of src/laws.rt have them as their contracts.
use Rattle.std.specs.Prelude.{◌≡◌, ℕ, ◌+◌, ◌-◌, ◌*◌, ◌^◌, ◌<◌, ◌≤◌, ◌↔◌, ◌⊎◌, ◌++◌, Bool, true, false, not, length, List, [], ◌∷◌, map}
use Rattle.std.specs.Prelude.{slice_index, slice_set}
use Rattle.std.specs.List.{All, Contains, filter, flat_map}
use Rattle.std.specs.Int.{bit_at}
use Rattle.lattice.specs.Family.{Family, divides, has, IsFamily, AreDisjoint, family_where, union_of, inter_of, sum_of, is_distinct}
use Rattle.lattice.specs.Family.{includes, is_node_list}
use Rattle.lattice.specs.Polynomial.{value, IsLess, IsGreatest, Vanishes}
use Rattle.lattice.specs.Cofactors.{low_cofactor, high_cofactor, join, sub}
use Rattle.lattice.specs.Interpolation.{Fits, IsLeast, IsUpperPart, IsLowerPart, interpolate}
use Rattle.lattice.specs.Basis.{IsStandard, IsLead, IsBasisElement, IsReducedBasis, IsSplitBy, standard_of, leads_of, reduced_basis_of}
use Rattle.lattice.specs.Operations.{polynomial_where, product_of, IsClosed}
use Rattle.lattice.specs.WorkingLists.{working_set}
use Rattle.lattice.specs.Counts.{Rose}
use Rattle.lattice.specs.Rows.{in_cube, on_rows, off_rows, care_zeros, care_ones, IsConsistent}
use Rattle.lattice.specs.Tables.{IsCanonical, MayFill, KeepsWords, DenotesIn, IsStored}
use Rattle.lattice.specs.CacheWords.{IsTrueWord}
use Rattle.lattice.specs.History.{FitsHistory, IsLegal}
use Rattle.lattice.specs.declared.entry.Entry.{Entry}
use Rattle.lattice.specs.declared.kind.Kind.{Kind}
use Rattle.lattice.specs.declared.row.Row.{Row}

-- m divides a exactly where every bit of m is a bit of a
abbrev pub DividesByBits : Type 0
DividesByBits = (m a : ℕ) → (divides m a ≡ true) ↔ ((i : ℕ) → bit_at m i ≡ 1 → bit_at a i ≡ 1)

-- no two polynomials are each less than the other
abbrev pub OrderIsStrict : Type 0
OrderIsStrict = (p q : List ℕ) → IsLess p q → IsLess q p → ⊥

-- A family is given by the test of being a member, and what is given by a test is a family.
abbrev pub FamilyIsItsMembers : Type 0
FamilyIsItsMembers = (n : ℕ) (f : Family) → IsFamily n f ↔ (f ≡ family_where n (has f))

-- The cofactors at the variable of weight 2 ^ d, by its bit: the members without it, and those with it, with it taken away.
abbrev pub CofactorsByBit : Type 0
CofactorsByBit = (d : ℕ) (f : Family) → IsFamily (d + 1) f → (low_cofactor d f ≡ filter (λ a. not (divides (2 ^ d) a)) f)
    × (high_cofactor d f ≡ map (λ a. a - 2 ^ d) (filter (divides (2 ^ d)) f))

-- A family is the join of its cofactors.
abbrev pub FamilyIsJoin : Type 0
FamilyIsJoin = (d : ℕ) (f : Family) → IsFamily (d + 1) f → f ≡ join d (low_cofactor d f) (high_cofactor d f)

-- Disjoint lists of points have a least polynomial, and only one.
abbrev pub InterpolateIsLeast : Type 0
InterpolateIsLeast = (n : ℕ) (zeros ones : List ℕ) → All (λ a. a < 2 ^ n) zeros → All (λ a. a < 2 ^ n) ones → AreDisjoint zeros ones
    → IsLeast n zeros ones (interpolate n zeros ones)

abbrev pub LeastIsUnique : Type 0
LeastIsUnique = (n : ℕ) (zeros ones p q : List ℕ) → IsLeast n zeros ones p → IsLeast n zeros ones q → p ≡ q

-- The least polynomial is g + x·h, for the least h on the upper part and the least g on the lower part at this h.
abbrev pub LeastSplits : Type 0
LeastSplits = (d : ℕ) (zeros ones g h uz uo lz lo : List ℕ) → All (λ a. a < 2 ^ (d + 1)) zeros → All (λ a. a < 2 ^ (d + 1)) ones
    → IsUpperPart d zeros ones uz uo → IsLeast d uz uo h → IsLowerPart d zeros ones h lz lo → IsLeast d lz lo g
    → IsLeast (d + 1) zeros ones (join d g h)

-- Divisors of standard monomials are standard.
abbrev pub DivisorsAreStandard : Type 0
DivisorsAreStandard = (n : ℕ) (points : List ℕ) → All (λ a. a < 2 ^ n) points → (m d : ℕ) → m < 2 ^ n → divides d m ≡ true
    → IsStandard n points m → IsStandard n points d

-- The standard monomials without the greatest variable x are those of P0 ∪ P1, and those with x are x times those of P0 ∩ P1.
abbrev pub StandardSplitsLow : Type 0
StandardSplitsLow = (d : ℕ) (points : List ℕ) (m : ℕ) → All (λ a. a < 2 ^ (d + 1)) points → m < 2 ^ d
    → IsStandard (d + 1) points m ↔ IsStandard d (union_of d (low_cofactor d points) (high_cofactor d points)) m

abbrev pub StandardSplitsHigh : Type 0
StandardSplitsHigh = (d : ℕ) (points : List ℕ) (m : ℕ) → All (λ a. a < 2 ^ (d + 1)) points
    → IsStandard (d + 1) points (2 ^ d + m) ↔ IsStandard d (inter_of d (low_cofactor d points) (high_cofactor d points)) m

-- The least polynomial has standard monomials only, and a polynomial of standard monomials that fits is the least one.
abbrev pub LeastIsStandard : Type 0
LeastIsStandard = (n : ℕ) (zeros ones p : List ℕ) → IsLeast n zeros ones p → (m : ℕ) → has p m ≡ true → IsStandard n (zeros ++ ones) m

abbrev pub StandardIsLeast : Type 0
StandardIsLeast = (n : ℕ) (zeros ones p : List ℕ) → IsFamily n p → Fits zeros ones p
    → ((m : ℕ) → has p m ≡ true → IsStandard n (zeros ++ ones) m) → IsLeast n zeros ones p

-- The recursion gives the standard monomials, and there are as many as points.
abbrev pub StandardByRecursion : Type 0
StandardByRecursion = (n : ℕ) (points : List ℕ) → IsFamily n points → IsFamily n (standard_of n points)
    × ((m : ℕ) → (has (standard_of n points) m ≡ true) ↔ ((m < 2 ^ n) × IsStandard n points m))

abbrev pub StandardCount : Type 0
StandardCount = (n : ℕ) (points : List ℕ) → IsFamily n points → length (standard_of n points) ≡ length points

-- The minimal monomials that are not standard are the leads.
abbrev pub LeadsAreMinimal : Type 0
LeadsAreMinimal = (n : ℕ) (points : List ℕ) → IsFamily n points → (m : ℕ)
    → (has (leads_of n (standard_of n points)) m ≡ true) ↔ ((m < 2 ^ n) × IsLead n points m)

-- Where polynomials vanish on the points, and as many monomials are divisible by none of their greatest monomials as there
-- are points, these monomials are the standard ones.
abbrev pub CountDecidesStandard : Type 0
CountDecidesStandard = (n : ℕ) (points tops rest : List ℕ) → IsFamily n points → IsFamily n rest
    → ((t : ℕ) → has tops t ≡ true → (t < 2 ^ n) × ((p : List ℕ) × IsFamily n p × IsGreatest p t × Vanishes p points))
    → ((m : ℕ) → (has rest m ≡ true) ↔ ((m < 2 ^ n) × ((t : ℕ) → has tops t ≡ true → divides t m ≡ false)))
    → length rest ≡ length points → (m : ℕ) → (has rest m ≡ true) ↔ ((m < 2 ^ n) × IsStandard n points m)

-- The element with the lead m is m plus the least polynomial that has the values of m on the points.
abbrev pub BasisElementFromLeast : Type 0
BasisElementFromLeast = (n m : ℕ) (points zeros ones r : List ℕ) → m < 2 ^ n → IsSplitBy m points zeros ones → IsLeast n zeros ones r
    → IsLead n points m → IsBasisElement n points m (sum_of n (m ∷ []) r)

-- A set of points has a reduced basis, and only one.
abbrev pub ReducedBasisExists : Type 0
ReducedBasisExists = (n : ℕ) (points : List ℕ) → IsFamily n points → IsReducedBasis n points (reduced_basis_of n points)

abbrev pub ReducedBasisIsUnique : Type 0
ReducedBasisIsUnique = (n : ℕ) (points : List ℕ) (b c : List (List ℕ)) → IsReducedBasis n points b → IsReducedBasis n points c → b ≡ c

-- What is least over k variables is least over more of them, and the same monomials below 2 ^ k are standard.
abbrev pub LeastOverMore : Type 0
LeastOverMore = (k n : ℕ) (zeros ones p : List ℕ) → 2 ^ k ≤ 2 ^ n → IsLeast k zeros ones p → IsLeast n zeros ones p

abbrev pub StandardOverMore : Type 0
StandardOverMore = (k n : ℕ) (points : List ℕ) (m : ℕ) → 2 ^ k ≤ 2 ^ n → m < 2 ^ k → IsStandard k points m ↔ IsStandard n points m

-- The polynomial with given ones has these ones, and a product has the products of the values.
abbrev pub PolynomialByValues : Type 0
PolynomialByValues = (n : ℕ) (test : ℕ → Bool) → IsFamily n (polynomial_where n test)
    × ((a : ℕ) → a < 2 ^ n → (value (polynomial_where n test) a ≡ 1) ↔ (test a ≡ true))

abbrev pub ProductByValues : Type 0
ProductByValues = (n : ℕ) (p q : Family) (a : ℕ) → a < 2 ^ n → value (product_of n p q) a ≡ value p a * value q a

-- A description is consistent where no on-row and off-row of one output share a point.
abbrev pub ConsistentByRows : Type 0
ConsistentByRows = (n outputs : ℕ) (rows : List Row)
    → IsConsistent n outputs rows ↔ ((output a : ℕ) (r s : Row) → 1 ≤ output → output ≤ outputs → a < 2 ^ n
    → Contains (on_rows output rows) r → Contains (off_rows output rows) s → in_cube r a ≡ true → in_cube s a ≡ true → ⊥)

-- No care point of a consistent output has both values.
abbrev pub CarePointsAreDisjoint : Type 0
CarePointsAreDisjoint = (n outputs : ℕ) (kind : Kind) (rows : List Row) (output : ℕ) → IsConsistent n outputs rows → 1 ≤ output
    → output ≤ outputs → AreDisjoint (care_zeros n kind rows output) (care_ones n kind rows output)

-- A working set has the subfamilies of the list's families, each once, and none of them is empty or {0}.
abbrev pub WorkingSetMembers : Type 0
WorkingSetMembers = (n : ℕ) (list : List Family) (f : Family) → includes (working_set n list) f ≡ includes (flat_map (sub n) list) f

abbrev pub WorkingSetIsNodeList : Type 0
WorkingSetIsNodeList = (n : ℕ) (list : List Family) → is_node_list (working_set n list) ≡ true

-- The leads of a family that is closed under divisors, by recursion: those of S0, and x times those of S1 that are in S0.
abbrev pub LeadsByRecursion : Type 0
LeadsByRecursion = (d : ℕ) (monos : Family) → IsFamily (d + 1) monos → IsClosed monos
    → leads_of (d + 1) monos ≡ join d (leads_of d (low_cofactor d monos))
    (inter_of d (leads_of d (high_cofactor d monos)) (low_cofactor d monos))

-- A count below 2 ^ 64 rose where it is greater than before, or stands at its greatest value.
abbrev pub RoseIsGreater : Type 0
RoseIsGreater = (before after : ℕ) → after < 2 ^ 64 → Rose before after ↔ ((before < after) ⊎ (after ≡ 2 ^ 64 - 1))

-- ---- tables

-- Where a vacant place of a canonical table is filled as it may be, the table stays canonical.
abbrev pub FillingKeepsCanonical : Type 0
FillingKeepsCanonical = (bits vars i w : ℕ) (ws : List ℕ) → IsCanonical bits vars ws → slice_index ws i ≡ 0 → i < 2 ^ bits → MayFill bits vars ws i w → IsCanonical bits vars (slice_set ws i w)

-- What a filled slot denotes stays where filled slots keep their words, and so does what a history fits.
abbrev pub DenotedStays : Type 0
DenotedStays = (vars h : ℕ) (ws later : List ℕ) (f : Family) → KeepsWords ws later → DenotesIn vars ws h f → DenotesIn vars later h f

abbrev pub HistoryStaysFit : Type 0
HistoryStaysFit = (size : ℕ) (ws later : List ℕ) (es : List Entry) → KeepsWords ws later → FitsHistory size ws es → FitsHistory size later es

-- A handle denotes one family at most, and in a canonical table no two handles denote one family.
abbrev pub DenotedIsOne : Type 0
DenotedIsOne = (vars h : ℕ) (ws : List ℕ) (f g : Family) → DenotesIn vars ws h f → DenotesIn vars ws h g → f ≡ g

abbrev pub HandleIsOne : Type 0
HandleIsOne = (bits vars h g : ℕ) (ws : List ℕ) (f : Family) → IsCanonical bits vars ws → DenotesIn vars ws h f → DenotesIn vars ws g f → h ≡ g

-- Distinct families that filled slots denote are no more than there are slots.
abbrev pub StoredFit : Type 0
StoredFit = (bits vars : ℕ) (ws : List ℕ) (fs : List Family) → IsCanonical bits vars ws → All (IsStored vars ws) fs → is_distinct fs ≡ true → length fs ≤ 2 ^ bits

-- A history that fits a canonical table is legal, and two of them, one after the other, are one.
abbrev pub FittingIsLegal : Type 0
FittingIsLegal = (bits vars : ℕ) (ws : List ℕ) (es : List Entry) → IsCanonical bits vars ws → FitsHistory (2 ^ bits) ws es → IsLegal (2 ^ bits) es

abbrev pub HistoriesAppend : Type 0
HistoriesAppend = (size : ℕ) (ws : List ℕ) (es fs : List Entry) → FitsHistory size ws es → FitsHistory size ws fs → FitsHistory size ws (es ++ fs)

-- A true cache word stays true where filled slots keep their words.
abbrev pub TrueWordStays : Type 0
TrueWordStays =
    (c vars place w : ℕ) (ws later : List ℕ) → KeepsWords ws later → IsTrueWord c vars ws place w → IsTrueWord c vars later place w
