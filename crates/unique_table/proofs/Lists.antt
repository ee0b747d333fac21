-- Lists of held families, with those of another list, and what lists of pairs know of handles.
use Rattle.std.proofs.Common.{◌≡◌, ℕ, true, ◌⊎◌, inl, inr, Some, is_some, List, [], ◌∷◌, ◌++◌, ap, ◌∙◌, eqb-true, eq-eqb, arith}
use Rattle.std.specs.List.{All, Contains}
use Rattle.std.proofs.lemmas.List.Elements.{All-contains, All-nil, All-cons, All-head, All-tail, All-append, Contains-append_right}
use Rattle.std.proofs.lemmas.Bool.{cases_Bool, and_from}
use Rattle.lattice.specs.Words.{Family, Has, Covers, is_distinct, sub, AgreesWith}
use Rattle.lattice.proofs.Diagrams.{Has-nil, Has-cases, Has-head, Has-tail, Has-append_left, Has-append_right, denotes_one}
use Rattle.lattice.proofs.Polynomials.{contains_cases}
use Rattle.node_store.proofs.StoreLaws.{some_is}
use Rattle.unique_table.specs.Views.{known_by}
use Rattle.unique_table.specs.Rule.{IsPair, with_family, merged}

-- ---- held families

with_has : (held : List Family) (f : Family) → Has (with_family held f) f
with_has held f = grind (arith, cases_Bool, Has-head)

with_keeps : (held : List Family) (f g : Family) → Has held g → Has (with_family held f) g
with_keeps held f g h = grind (arith, cases_Bool, Has-tail)

with_only : (held : List Family) (f g : Family) → Has (with_family held f) g → Has held g ⊎ (f ≡ g)
with_only held f g h = grind (arith, cases_Bool, Has-cases)

with_distinct : (held : List Family) (f : Family) → is_distinct held ≡ true → is_distinct (with_family held f) ≡ true
with_distinct held f d = grind (arith, cases_Bool, and_from)

with_all : (P : Family → Type 0) (held : List Family) (f : Family) → All P held → P f → All P (with_family held f)
with_all P held f all is = grind (arith, cases_Bool, All-cons)

pub merged_keeps : (held fs : List Family) → Covers (merged held fs) held
merged_keeps held [] g h = h
merged_keeps held (f ∷ fs) g h = merged_keeps (with_family held f) fs g (with_keeps held f g h)

pub merged_has : (held fs : List Family) → Covers (merged held fs) fs
merged_has held [] g h = absurd (Has-nil g h)
merged_has held (f ∷ fs) g h =
    grind (arith, Has-cases f fs g h, with_has held f, merged_keeps (with_family held f) fs g, merged_has (with_family held f) fs g)

-- nothing else is in the merged list
pub merged_only : (held fs : List Family) (g : Family) → Has (merged held fs) g → Has held g ⊎ Has fs g
merged_only held [] g h = inl h
merged_only held (f ∷ fs) g h = grind (arith, with_only, Has-head, Has-tail, merged_only (with_family held f) fs g h)

pub merged_distinct : (held fs : List Family) → is_distinct held ≡ true → is_distinct (merged held fs) ≡ true
merged_distinct held [] d = d
merged_distinct held (f ∷ fs) d = merged_distinct (with_family held f) fs (with_distinct held f d)

pub merged_all : (P : Family → Type 0) (held fs : List Family) → All P held → All P fs → All P (merged held fs)
merged_all P held [] all more = all
merged_all P held (f ∷ fs) all more = merged_all P (with_family held f) fs (with_all P held f all (All-head P f fs more))
    (All-tail P f fs more)

-- of a list of which all pass, each family passes
pub All-Has : (P : Family → Type 0) (fs : List Family) (f : Family) → All P fs → Has fs f → P f
All-Has P [] f all h = absurd (Has-nil f h)
All-Has P (g ∷ gs) f all h = grind (arith, Has-cases g gs f h, All-head P g gs all, All-Has P gs f (All-tail P g gs all))

pub All-from_Has : (P : Family → Type 0) (fs : List Family) → ((f : Family) → Has fs f → P f) → All P fs
All-from_Has P [] h = All-nil P
All-from_Has P (f ∷ fs) h = All-cons P f fs (h f (Has-head f fs)) (All-from_Has P fs (λ g i. h g (Has-tail f fs g i)))

-- ---- pairs of handles and families

pub append_cases : (xs ys : List (ℕ × Family)) (h : ℕ) (f : Family) → known_by (xs ++ ys) h ≡ Some f
    → (known_by xs h ≡ Some f) ⊎ (known_by ys h ≡ Some f)
append_cases [] ys h f is = inr is
append_cases (p ∷ xs) ys h f is = grind (arith, append_cases xs ys h f)

-- what the first of two lists knows, both know
pub first_stays : (xs ys : List (ℕ × Family)) (h : ℕ) (f : Family) → known_by xs h ≡ Some f → known_by (xs ++ ys) h ≡ Some f
first_stays [] ys h f is = cc
first_stays (p ∷ xs) ys h f is = grind (arith, first_stays xs ys h f)

pub pair_cases : (h : ℕ) (f : Family) (ys : List (ℕ × Family)) (k : ℕ) (g : Family) → known_by ((h, f) ∷ ys) k ≡ Some g
    → ((h ≡ k) × (f ≡ g)) ⊎ (known_by ys k ≡ Some g)
pair_cases h f ys k g is = grind (arith, eqb-true)

-- a pair that is there makes its handle known
pair_some : (xs : List (ℕ × Family)) (h : ℕ) (f : Family) → Contains xs (h, f) → is_some (known_by xs h) ≡ true
pair_some [] h f c = let less = c.1 in absurd (omega arith)
pair_some (p ∷ ps) h f c = grind (arith, contains_cases (h, f) p ps c, pair_some ps h f, eq-eqb)

-- what is known stands in a pair
pub pair_there : (xs : List (ℕ × Family)) (h : ℕ) (f : Family) → known_by xs h ≡ Some f → Contains xs (h, f)
pair_there [] h f is = cc
pair_there (p ∷ ps) h f is = elim (pair_cases p.0 p.1 ps h f is) [
  | inl t ↦ (0, omega arith, λ k. (t.0 k, t.1 k))
  | inr t ↦ Contains-append_right (p ∷ []) ps (h, f) (pair_there ps h f t)
]

module _ (vars : ℕ) (ws : List ℕ) where
  pub agrees_of : (xs : List (ℕ × Family)) → All (IsPair vars ws) xs → AgreesWith vars ws (known_by xs)
  agrees_of xs all h f is = All-contains (IsPair vars ws) xs (h, f) all (pair_there xs h f is)

  -- each pair is what is known
  pub pairs_known : (xs : List (ℕ × Family)) → All (IsPair vars ws) xs → (h : ℕ) (f : Family) → Contains xs (h, f) → known_by xs h ≡ Some f
  pairs_known xs all h f c = let e = some_is (known_by xs h) (pair_some xs h f c) in
      e ∙ ap Some (denotes_one vars ws (agrees_of xs all h _ e) (All-contains (IsPair vars ws) xs (h, f) all c))

  pub second_stays : (xs ys : List (ℕ × Family)) → All (IsPair vars ws) xs → All (IsPair vars ws) ys → (h : ℕ) (f : Family)
      → known_by ys h ≡ Some f → known_by (xs ++ ys) h ≡ Some f
  second_stays xs ys one two h f is = pairs_known (xs ++ ys) (All-append (IsPair vars ws) xs ys one two) h f
      (Contains-append_right xs ys (h, f) (pair_there ys h f is))

-- the subfamilies of the families of pairs
pub subs_of : ℕ → List (ℕ × Family) → List Family
subs_of vars [] = []
subs_of vars (p ∷ ps) = sub vars p.1 ++ subs_of vars ps

pub covers_subs : (vars : ℕ) (ps : List (ℕ × Family)) (h : ℕ) (f : Family) → known_by ps h ≡ Some f → Covers (subs_of vars ps) (sub vars f)
unfolding subs_of
covers_subs vars [] h f is g i = cc
covers_subs vars (p ∷ ps) h f is g i =
    grind (arith, pair_cases p.0 p.1 ps h f is, Has-append_left, Has-append_right, covers_subs vars ps h f)

pub all_subs : (P : Family → Type 0) (vars : ℕ) (ps : List (ℕ × Family))
    → All (λ (p : ℕ × Family). (g : Family) → Has (sub vars p.1) g → P g) ps → All P (subs_of vars ps)
unfolding subs_of
all_subs P vars [] all = All-nil P
all_subs P vars (p ∷ ps) all = let Q = (λ (p : ℕ × Family). (g : Family) → Has (sub vars p.1) g → P g) in
    All-append P (sub vars p.1) (subs_of vars ps) (All-from_Has P (sub vars p.1) (All-head Q p ps all))
    (all_subs P vars ps (All-tail Q p ps all))
