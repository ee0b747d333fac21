-- For callers: which member is the least.
use Rattle.std.proofs.Common.{◌≡◌, ℕ, ◌≤◌, ◌↔◌, inl, inr, true, None, Some, [], ◌∷◌, All, ap, arith, refl}
use Rattle.std.proofs.lemmas.List.Elements.{All-head}
use Rattle.lattice.specs.Words.{Family, IsFamily, has}
use Rattle.lattice.proofs.Polynomials.{All-from_has, ascends_head, has_cases, has_head, has_none}
use Rattle.diagram_measures.specs.Measured.{least_member_of}

-- no member is less than the first one
first_is_least : (n x : ℕ) (xs : Family) → IsFamily n (x ∷ xs) → (y : ℕ) → has (x ∷ xs) y ≡ true → x ≤ y
first_is_least n x xs is y i = elim (has_cases x xs y i) [
  | inl same ↦ omega (arith, same)
  | inr later ↦ omega (arith, ascends_head x xs is.ascends y later)
]

-- The least member is a member, and no other is less; there is none where there are no members.
pub least_member_is_least : (n : ℕ) (f : Family) → IsFamily n f → ((least_member_of f ≡ None) ↔ (f ≡ []))
    × ((m : ℕ) → (least_member_of f ≡ Some m) ↔ ((has f m ≡ true) × All (λ x. m ≤ x) f))
least_member_is_least n [] is = ((λ e. refl, λ e. refl), λ m. (λ e. cc, λ h. has_none m h.0))
least_member_is_least n (x ∷ xs) is = (
  (λ e. cc, λ e. cc),
  λ m. (
    λ e. let same : x ≡ m = cc in
        rw (← same) (has_head x xs, All-from_has (λ y. x ≤ y) (x ∷ xs) (first_is_least n x xs is)),
    λ h. let same : x ≡ m = omega (arith, first_is_least n x xs is m h.0, All-head (λ y. m ≤ y) x xs h.1) in ap Some same,
  ),
)
