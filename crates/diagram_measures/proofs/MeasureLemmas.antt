-- The terms and the degree of a polynomial cut at a variable, their bounds, and how many nodes there are.
use Rattle.std.proofs.Common.{◌≡◌, ◌≢◌, ℕ, ◌+◌, ◌*◌, ◌^◌, ◌<◌, ◌≤◌, max, true, inl, inr, ◌↔◌, List, [], ◌∷◌, ◌++◌, length, map, All}
use Rattle.std.proofs.Common.{refl, ap, arith, count_ones, length-append}
use Rattle.std.proofs.lemmas.Nat.{ones-le, ones_cat, ones_le_self, zero_from_ones}
use Rattle.std.proofs.lemmas.List.{length-map}
use Rattle.std.proofs.lemmas.Bool.{cases_lt}
use Rattle.std.proofs.lemmas.List.Elements.{All-nil, All-cons, All-head, All-tail}
use Rattle.std.proofs.lemmas.List.Sums.{count_by-le-length}
use Rattle.lattice.specs.Words.{Family, IsFamily, Has, has, is_distinct, join, sub, numbers_below, working_set}
use Rattle.lattice.proofs.Diagrams.{Has-head, covered_length, covers_one, covers_sub, working_set_is_distinct}
use Rattle.lattice.proofs.Polynomials.{family_where_has, has_head, has_tail, length-numbers_below, length_where}
use Rattle.diagram_measures.specs.Measured.{degree_of, nodes_of}
use Rattle.diagram_measures.specs.Met.{AreCounts}
use Rattle.diagram_measures.specs.declared.measured.Counts.{Counts}

-- ---- degrees

one_is_one : count_ones 1 ≡ 1
one_is_one = let some : count_ones 1 ≢ 0 = λ none. omega (arith, zero_from_ones 1 none) in omega (arith, ones_le_self 1, some)

-- a monomial has one variable more with the variable of weight 2 ^ d
ones-raised : (d x : ℕ) → x < 2 ^ d → count_ones (2 ^ d + x) ≡ count_ones x + 1
ones-raised d x less =
    let one : 2 ^ d ≡ 1 * 2 ^ d = omega arith in omega (arith, ap (λ w. count_ones (w + x)) one, ones_cat d 1 x less, one_is_one)

degree-append : (xs ys : List ℕ) → degree_of (xs ++ ys) ≡ max (degree_of xs) (degree_of ys)
unfolding degree_of
degree-append [] ys = omega arith
degree-append (x ∷ xs) ys = omega (arith, degree-append xs ys)

degree-raised : (d x : ℕ) (xs : List ℕ) → All (λ y. y < 2 ^ d) (x ∷ xs) → degree_of (map (λ y. 2 ^ d + y) (x ∷ xs)) ≡ degree_of (x ∷ xs) + 1
unfolding degree_of
degree-raised d x [] below = omega (arith, ones-raised d x (All-head (λ y. y < 2 ^ d) x [] below))
degree-raised d x (y ∷ ys) below =
    let rest = degree-raised d y ys (All-tail (λ z. z < 2 ^ d) x (y ∷ ys) below) in
    omega (arith, ones-raised d x (All-head (λ z. z < 2 ^ d) x (y ∷ ys) below), rest)

degree-join : (d : ℕ) (lo hi : Family) → IsFamily d hi → hi ≢ [] → degree_of (join d lo hi) ≡ max (degree_of lo) (degree_of hi + 1)
unfolding join
degree-join d lo [] is some = absurd (some refl)
degree-join d lo (x ∷ xs) is some =
    omega (arith, degree-append lo (map (λ y. 2 ^ d + y) (x ∷ xs)), degree-raised d x xs is.below)

degree_within : (n : ℕ) (f : List ℕ) → All (λ x. x < 2 ^ n) f → degree_of f ≤ n
unfolding degree_of
degree_within n [] below = omega arith
degree_within n (x ∷ xs) below = let rest = degree_within n xs (All-tail (λ y. y < 2 ^ n) x xs below) in
    omega (arith, ones-le n x (All-head (λ y. y < 2 ^ n) x xs below), rest)

within_degree : (n : ℕ) (f : List ℕ) → degree_of f ≤ n → All (λ m. count_ones m ≤ n) f
unfolding degree_of
within_degree n [] le = All-nil (λ m. count_ones m ≤ n)
within_degree n (x ∷ xs) le = All-cons (λ m. count_ones m ≤ n) x xs (omega arith) (within_degree n xs (omega arith))

-- no term has more variables than the degree
pub degree_is_most : (f : Family) → All (λ m. count_ones m ≤ degree_of f) f
degree_is_most f = within_degree (degree_of f) f (omega arith)

-- and where there are terms, one has as many
pub degree_is_met : (f : List ℕ) → f ≢ [] → (m : ℕ) × (has f m ≡ true) × (count_ones m ≡ degree_of f)
unfolding degree_of
degree_is_met [] some = absurd (some refl)
degree_is_met (x ∷ xs) some = elim (cases_lt (count_ones x) (degree_of xs)) [
  | inl less ↦
      let more : xs ≢ [] = λ none. omega (arith, ap degree_of none, less) in let rest = degree_is_met xs more in
      (rest.0, has_tail x xs rest.0 rest.1, omega (arith, rest.2, less))
  | inr most ↦ (x, has_head x xs, omega (arith, most))
]

-- ---- terms and degree

-- a family over n variables has at most 2 ^ n terms, and its degree is at most n
pub counts_within : {f : Family} {c : Counts} (n : ℕ) → IsFamily n f → AreCounts f c → (c.terms ≤ 2 ^ n) × (c.degree ≤ n)
counts_within {f} {c} n is are =
    let same = ap length (family_where_has n f is) in let passed = count_by-le-length (has f) (numbers_below (2 ^ n)) in (
      omega (arith, are.terms, same, length_where n (has f), passed, length-numbers_below (2 ^ n)),
      omega (arith, are.degree, degree_within n f is.below),
    )

-- of the empty family
pub counts_empty : (f : Family) → f ≡ [] → AreCounts f (record { terms = 0; degree = 0 })
unfolding degree_of
counts_empty f is = rw is (record { terms = refl; degree = refl })

-- of the family whose one member is 0
pub counts_unit : (f : Family) → f ≡ 0 ∷ [] → AreCounts f (record { terms = 1; degree = 0 })
unfolding degree_of
counts_unit f is = rw is (record { terms = refl; degree = omega (arith, ones_le_self 0) })

-- of a family by those of its parts
pub counts_join : (low high c : Counts) → c.terms ≡ low.terms + high.terms → c.degree ≡ max low.degree (high.degree + 1) → (d : ℕ)
    (lo hi : Family) → IsFamily d hi → hi ≢ [] → AreCounts lo low → AreCounts hi high → AreCounts (join d lo hi) c
unfolding join
counts_join low high c terms degree d lo hi fits some first second =
    let raised = map (λ x. 2 ^ d + x) hi in record {
      terms = omega (arith, length-append lo raised, length-map hi (λ x. 2 ^ d + x), first.terms, second.terms, terms);
      degree = omega (arith, degree-join d lo hi fits some, first.degree, second.degree, degree);
    }

-- ---- nodes

-- a list that has the subfamilies, each once and no others, has as many as there are nodes
pub nodes_same : (n : ℕ) (f : Family) (nodes : List Family) → is_distinct nodes ≡ true → ((g : Family) → Has nodes g ↔ Has (sub n f) g)
    → length nodes ≡ nodes_of n f
nodes_same n f nodes distinct same =
    let set = working_set n (f ∷ []) in
    let within = covered_length nodes set distinct (λ g h. covers_sub n (f ∷ []) f (Has-head f []) g ((same g).0 h)) in
    let whole = covered_length set nodes (working_set_is_distinct n (f ∷ [])) (covers_one n nodes f (λ g h. (same g).1 h)) in
    omega (arith, within, whole)
