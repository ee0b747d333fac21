-- Laws of what is measured, and of the least member.
use Rattle.std.specs.Prelude.{◌≡◌, ◌≢◌, ℕ, ◌≤◌, true, count_ones, None, Some, List, [], ◌↔◌, length}
use Rattle.std.specs.List.{All}
use Rattle.lattice.specs.Family.{Family, Has, IsFamily, has, is_distinct}
use Rattle.lattice.specs.Cofactors.{sub}
use Rattle.diagram_measures.specs.Measured.{degree_of, least_member_of, nodes_of}

-- No term has more variables than the degree, and where there are terms, one has as many.
abbrev pub DegreeIsGreatest : Type 0
DegreeIsGreatest = (f : Family) → All (λ m. count_ones m ≤ degree_of f) f
    × (f ≢ [] → (m : ℕ) × (has f m ≡ true) × (count_ones m ≡ degree_of f))

-- A list that has the subfamilies, each once and no others, has as many as there are nodes.
abbrev pub NodesAreSubfamilies : Type 0
NodesAreSubfamilies = (n : ℕ) (f : Family) (nodes : List Family) → is_distinct nodes ≡ true
    → ((g : Family) → Has nodes g ↔ Has (sub n f) g) → length nodes ≡ nodes_of n f

-- The least member is a member, and no other is less; there is none where there are no members.
abbrev pub LeastMemberIsLeast : Type 0
LeastMemberIsLeast = (n : ℕ) (f : Family) → IsFamily n f → ((least_member_of f ≡ None) ↔ (f ≡ []))
    × ((m : ℕ) → (least_member_of f ≡ Some m) ↔ ((has f m ≡ true) × All (λ x. m ≤ x) f))
