-- The terms of polynomials, so far and later, and walks that were over their limit.
use Rattle.std.proofs.Common.{◌≡◌, ℕ, ◌+◌, ◌<◌, ◌≤◌, List, [], ◌∷◌, length, take, get_or, ap, sym, refl, arith, ◌++◌, map, reverse}
use Rattle.std.proofs.Common.{◌∙◌}
use Rattle.std.specs.List.{All, sum_by}
use Rattle.std.proofs.lemmas.List.Sums.{sum_by-cons, sum_by_more, sum_by_more_le}
use Rattle.std.proofs.lemmas.List.Elements.{All-get_or, All-head, All-tail}
use Rattle.std.proofs.lemmas.List.{map_more, map_push, reverse-reverse}
use Rattle.lattice.specs.Words.{Family}
use Rattle.node_store.specs.Stores.{State, Knows, family, no_handle, Grows}
use Rattle.node_store.proofs.StoreLaws.{Grows-family, length-later}
use Rattle.node_store.specs.declared.store.Handle.{Handle}
use Rattle.set_algebra.specs.Terms.{terms_of}

-- the terms of one element
abbrev handle_terms : State → Handle → ℕ
handle_terms s h = length (family s h)

-- one more element, whose terms are the same later
one_more : {X : Type 0} (f later : X → ℕ) (xs : List X) (i : ℕ) (x d : X) → i < length xs → x ≡ get_or xs i d → later x ≡ f x
    → (sum_by f (take (i + 1) xs) ≡ sum_by f (take i xs) + later x) × (sum_by f (take i xs) + later x ≤ sum_by f xs)
one_more f later xs i x d within is same = grind (arith, sum_by_more, sum_by_more_le)

-- handles have as many terms later
pub terms_of-later : (s t : State) (hs : List Handle) → Grows s t → All (Knows s) hs → terms_of t hs ≡ terms_of s hs
terms_of-later s t [] grows known = refl
terms_of-later s t (h ∷ hs) grows known =
    let rest = terms_of-later s t hs grows (All-tail (Knows s) h hs known) in
    let one = length-later s t h grows (All-head (Knows s) h hs known) in
    omega (arith, sum_by-cons (handle_terms s) h hs, sum_by-cons (handle_terms t) h hs)

-- the terms of one more polynomial that is known
pub terms_more : (s t : State) (hs : List Handle) (i : ℕ) → Grows s t → All (Knows s) hs → i < length hs
    → (terms_of s (take (i + 1) hs) ≡ terms_of s (take i hs) + handle_terms t (get_or hs i no_handle))
    × (terms_of s (take i hs) + handle_terms t (get_or hs i no_handle) ≤ terms_of s hs)
terms_more s t hs i grows known within = one_more (handle_terms s) (handle_terms t) hs i _ no_handle within refl
    (length-later s t _ grows (All-get_or (Knows s) hs i no_handle within known))

-- its list
pub lists_more : (s t : State) (hs : List Handle) (i : ℕ) (before after : List Family) (terms : Family) → Grows s t → All (Knows s) hs
    → i < length hs → map reverse before ≡ map (family s) (take i hs)
    → terms ≡ reverse (family t (get_or hs i no_handle)) → after ≡ before ++ terms ∷ []
    → map reverse after ≡ map (family s) (take (i + 1) hs)
lists_more s t hs i before after terms grows known within so_far is pushed =
    let h = get_or hs i no_handle in
    let last : reverse terms ≡ family s h = ap reverse is
    ∙ (reverse-reverse (family t h) ∙ Grows-family s t h grows (All-get_or (Knows s) hs i no_handle within known)) in
    rw (pushed, map_push reverse before terms, so_far, last) (sym (map_more (family s) hs i no_handle within))
