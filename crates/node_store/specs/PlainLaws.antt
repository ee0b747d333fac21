-- What follows of such a table.
use Rattle.std.specs.Prelude.{◌≡◌, ◌≢◌, ℕ, zero, suc, ◌+◌, ◌-◌, ◌^◌, ◌<◌, ◌≤◌, ◌⊎◌, Option, Some, None, List, [], ◌∷◌, ◌++◌, slice_get}
use Rattle.std.specs.Prelude.{drop, length, unwrap_or, refl, true, false, is_some}
use Rattle.std.proofs.Common.{sym, ◌∙◌, ap, subst, inl, inr, arith, length-append, length-drop}
use Rattle.std.proofs.lemmas.Option.{slice_get_within}
use Rattle.lattice.specs.Family.{Family, IsFamily, Has, Covers, includes, is_node_list, is_distinct}
use Rattle.lattice.specs.Cofactors.{join, low_cofactor, high_cofactor, sub}
use Rattle.lattice.proofs.Diagrams.{Has-nil, Has-cases, Has-append_cases, Has_at, index_of, distinct_from, none_of, IsFamily-nil}
use Rattle.lattice.proofs.Diagrams.{IsFamily-unit, cases_empty, high_cofactor_none, low_cofactor_whole, IsFamily-join_suc}
use Rattle.lattice.proofs.Diagrams.{low_cofactor-join, high_cofactor-join, sub-zero, sub-empty, sub-full, join_level}
use Rattle.lattice.proofs.Polynomials.{IsFamily_wider, IsFamily-low_cofactor}
use Rattle.node_store.specs.Stores.{State, IsSound, node_family, family, Knows}
use Rattle.node_store.specs.Plain.{at_node, grown, families, plain_state, IsTable}
use Rattle.node_store.specs.declared.store.Node.{Node}
use Rattle.node_store.specs.declared.store.Handle.{Handle}
use Rattle.lattice.specs.declared.limits.TheConstants.{MAX_VARS}

-- the family of a known handle
pub some_is : (o : Option Family) → is_some o ≡ true → o ≡ Some (unwrap_or o [])
some_is (Some f) h = refl
some_is None h = cc

pub some_same : {X : Type 0} {x y : X} → Some x ≡ Some y → x ≡ y
some_same e = cc

-- elements by their index

pub get_more : (xs ys : List Family) (k : ℕ) (f : Family) → slice_get xs k ≡ Some f → slice_get (xs ++ ys) k ≡ Some f
get_more [] ys k f e = grind arith
get_more (x ∷ xs) ys zero f e = e
get_more (x ∷ xs) ys (suc k) f e = get_more xs ys k f e

pub get_last : {X : Type 0} (xs : List X) (y : X) → slice_get (xs ++ y ∷ []) (length xs) ≡ Some y
get_last [] y = refl
get_last (x ∷ xs) y = get_last xs y

pub grown-push : (vars : ℕ) (fs : List Family) (ns : List Node) (n : Node)
    → grown vars fs (ns ++ n ∷ []) ≡ grown vars fs ns ++ at_node vars (grown vars fs ns) n ∷ []
grown-push vars fs [] n = refl
grown-push vars fs (m ∷ ns) n = grown-push vars (fs ++ at_node vars fs m ∷ []) ns n

pub length-grown : (vars : ℕ) (fs : List Family) (ns : List Node) → length (grown vars fs ns) ≡ length fs + length ns
length-grown vars fs [] = omega arith
length-grown vars fs (n ∷ ns) = length-grown vars (fs ++ at_node vars fs n ∷ []) ns
    ∙ omega (arith, length-append fs (at_node vars fs n ∷ []))

pub grown-front : (vars : ℕ) (fs : List Family) (ns : List Node) (k : ℕ) (f : Family) → slice_get fs k ≡ Some f
    → slice_get (grown vars fs ns) k ≡ Some f
grown-front vars fs [] k f e = e
grown-front vars fs (n ∷ ns) k f e = grown-front vars (fs ++ at_node vars fs n ∷ []) ns k f (get_more fs (at_node vars fs n ∷ []) k f e)

pub some_at : (xs : List Node) (k : ℕ) → k < length xs → (n : Node) × (slice_get xs k ≡ Some n)
some_at [] k h = absurd (omega arith)
some_at (x ∷ xs) zero h = (x, refl)
some_at (x ∷ xs) (suc k) h = some_at xs k (omega arith)

pub two_on : (fs : List Family) (k : ℕ) → slice_get (drop 2 fs) k ≡ slice_get fs (k + 2)
two_on [] k = refl
two_on (f ∷ []) zero = refl
two_on (f ∷ []) (suc k) = let e : suc k + 2 ≡ suc (suc (suc k)) = omega arith in ap (λ i. slice_get (f ∷ []) i) (sym e)
two_on (f ∷ g ∷ gs) k = let e : k + 2 ≡ suc (suc k) = omega arith in ap (λ i. slice_get (f ∷ g ∷ gs) i) (sym e)

module _ (vars capacity : ℕ) (plan : List Family) (refusals : ℕ) (nodes : List Node) where
  abbrev s : State
  s = plain_state vars capacity plan refusals nodes

  fs : List Family
  fs = families vars nodes

  pub known-is : (h : ℕ) → s.known h ≡ slice_get (families vars nodes) h
  unfolding plain_state
  known-is h = refl

  pub empty_known : s.known 0 ≡ Some []
  unfolding plain_state families
  empty_known = grown-front vars ([] ∷ (0 ∷ []) ∷ []) nodes 0 [] refl

  pub unit_known : s.known 1 ≡ Some (0 ∷ [])
  unfolding plain_state families
  unit_known = grown-front vars ([] ∷ (0 ∷ []) ∷ []) nodes 1 (0 ∷ []) refl

  pub length-families : length (families vars nodes) ≡ 2 + length nodes
  unfolding families
  length-families = length-grown vars ([] ∷ (0 ∷ []) ∷ []) nodes

  module _ (is : IsTable s nodes) where
    -- a known handle is a constant, or a slot
    pub entry : (h : ℕ) (f : Family) → s.known h ≡ Some f
        → (f ≡ []) ⊎ ((f ≡ 0 ∷ []) ⊎ ((k : ℕ) × (n : Node) × (h ≡ k + 2) × (slice_get nodes k ≡ Some n) × (f ≡ node_family s n)))
    entry zero f e = inl (sym (some_same (sym empty_known ∙ e)))
    entry (suc zero) f e = inr (inl (sym (some_same (sym unit_known ∙ e))))
    entry (suc (suc k)) f e =
        let fits : suc (suc k) < 2 + length nodes = subst (λ i. suc (suc k) < i) length-families
        (slice_get_within (families vars nodes) (suc (suc k)) f (sym (known-is (suc (suc k))) ∙ e)) in
        let n = some_at nodes k (omega arith) in
        let at : k + 2 ≡ suc (suc k) = omega arith in
        inr (inr (k, n.0, sym at, n.1, some_same (sym e ∙ (ap s.known (sym at) ∙ is.here k n.0 n.1))))

    known-family : (h : Handle) → Knows s h → s.known h.0 ≡ Some (family s h)
    known-family h k = some_is (s.known h.0) k

    pub node-after : (k : ℕ) (n : Node) → slice_get nodes k ≡ Some n → IsFamily (suc (s.vars - n.var)) (node_family s n)
    node-after k n e =
        let parts = (is.node k n e).parts in
        IsFamily-join_suc (s.vars - n.var) (family s n.lo) (family s n.hi) parts.lo_after parts.hi_after

    pub families-fit : (h : ℕ) (f : Family) → s.known h ≡ Some f → IsFamily s.vars f
    families-fit h f e = elim (entry h f e) [
      | inl x ↦ subst (IsFamily s.vars) (sym x) (IsFamily-nil s.vars)
      | inr y ↦ elim y [
        | inl x ↦ subst (IsFamily s.vars) (sym x) (IsFamily-unit s.vars)
        | inr z ↦
            let parts = (is.node z.0 z.1 z.3).parts in
            let less : suc (s.vars - z.1.var) ≤ s.vars = omega (arith, parts.first, parts.last) in
            subst (IsFamily s.vars) (sym z.4)
            (IsFamily_wider (suc (s.vars - z.1.var)) s.vars (node_family s z.1) (node-after z.0 z.1 z.3) less)
      ]
    ]

    pub held-is : (k : ℕ) → slice_get s.held k ≡ s.known (k + 2)
    unfolding plain_state
    held-is k = two_on (families vars nodes) k

    pub hi-filled : (k : ℕ) (n : Node) → slice_get nodes k ≡ Some n → family s n.hi ≢ []
    hi-filled k n e none =
        let node = is.node k n e in
        node.full (is.one_to_one n.hi.0 0 [] (known-family n.hi node.parts.hi_known ∙ ap Some none) empty_known)

    subs : (d h : ℕ) (f : Family) → s.known h ≡ Some f → IsFamily d f → Covers s.held (sub d f)
    subs zero h f e hf g has = absurd (Has-nil g (subst (λ gs. Has gs g) (sub-zero f) has))
    subs (suc d) h f e hf g has = elim (cases_empty (high_cofactor d f)) [
      | inl none ↦ subs d h f e (subst (IsFamily d) (low_cofactor_whole d f hf none) (IsFamily-low_cofactor d f)) g
          (subst (λ gs. Has gs g) (sub-empty d f none) has)
      | inr full ↦ elim (entry h f e) [
        | inl x ↦ absurd (full (ap (high_cofactor d) x ∙ high_cofactor_none d [] (IsFamily-nil d)))
        | inr y ↦ elim y [
          | inl x ↦ absurd (full (ap (high_cofactor d) x ∙ high_cofactor_none d (0 ∷ []) (IsFamily-unit d)))
          | inr z ↦
              let n = z.1 in
              let parts = (is.node z.0 n z.3).parts in
              let level : s.vars - n.var ≡ d = join_level d (s.vars - n.var) f (family s n.lo) (family s n.hi) parts.lo_after
              parts.hi_after (hi-filled z.0 n z.3) z.4 hf full in
              let lo_after : IsFamily d (family s n.lo) = subst (λ i. IsFamily i (family s n.lo)) level parts.lo_after in
              let hi_after : IsFamily d (family s n.hi) = subst (λ i. IsFamily i (family s n.hi)) level parts.hi_after in
              let whole : f ≡ join d (family s n.lo) (family s n.hi) = z.4 ∙ ap (λ i. join i (family s n.lo) (family s n.hi)) level in
              let low_is : low_cofactor d f ≡ family s n.lo = ap (low_cofactor d) whole
              ∙ low_cofactor-join d (family s n.lo) (family s n.hi) lo_after in
              let high_is : high_cofactor d f ≡ family s n.hi = ap (high_cofactor d) whole
              ∙ high_cofactor-join d (family s n.lo) (family s n.hi) lo_after hi_after in
              elim (Has-cases f (sub d (low_cofactor d f) ++ sub d (high_cofactor d f)) g (subst (λ gs. Has gs g) (sub-full d f full) has)) [
                | inl same ↦ subst (Has s.held) same (Has_at s.held z.0 f (held-is z.0 ∙ (ap s.known (sym z.2) ∙ e)))
                | inr rest ↦ elim (Has-append_cases (sub d (low_cofactor d f)) (sub d (high_cofactor d f)) g rest) [
                  | inl a ↦ subs d n.lo.0 (family s n.lo) (known-family n.lo parts.lo_known) lo_after g
                      (subst (λ x. Has (sub d x) g) low_is a)
                  | inr b ↦ subs d n.hi.0 (family s n.hi) (known-family n.hi parts.hi_known) hi_after g
                      (subst (λ x. Has (sub d x) g) high_is b)
                ]
              ]
        ]
      ]
    ]

    pub held-known : (f : Family) → Has s.held f → (k : ℕ) × (s.known (k + 2) ≡ Some f)
    held-known f h = let i = index_of s.held f h in (i.0, sym (held-is i.0) ∙ i.1)

    pub held-distinct : is_node_list s.held ≡ true
    held-distinct =
        let one : is_distinct s.held ≡ true = distinct_from s.held (λ i j f a b.
        let e : i + 2 ≡ j + 2 = is.one_to_one (i + 2) (j + 2) f (sym (held-is i) ∙ a) (sym (held-is j) ∙ b) in omega arith) in
        let two : includes s.held [] ≡ false = none_of s.held [] (λ h. let k = held-known [] h in
        let e : k.0 + 2 ≡ 0 = is.one_to_one (k.0 + 2) 0 [] k.1 empty_known in omega arith) in
        let three : includes s.held (0 ∷ []) ≡ false = none_of s.held (0 ∷ []) (λ h. let k = held-known (0 ∷ []) h in
        let e : k.0 + 2 ≡ 1 = is.one_to_one (k.0 + 2) 1 (0 ∷ []) k.1 unit_known in omega arith) in
        rw (one, two, three) refl

    pub held-planned : Covers s.plan s.held
    held-planned f h =
        let k = held-known f h in
        elim (entry (k.0 + 2) f k.1) [
          | inl x ↦ let e : k.0 + 2 ≡ 0 = is.one_to_one (k.0 + 2) 0 [] (k.1 ∙ ap Some x) empty_known in absurd (omega arith)
          | inr y ↦ elim y [
            | inl x ↦ let e : k.0 + 2 ≡ 1 = is.one_to_one (k.0 + 2) 1 (0 ∷ []) (k.1 ∙ ap Some x) unit_known in absurd (omega arith)
            | inr z ↦ subst (Has s.plan) (sym z.4) (is.planned z.0 z.1 z.3)
          ]
        ]

    pub length-held : length s.held ≡ length nodes
    unfolding plain_state
    length-held = length-drop 2 (families vars nodes) ∙ omega (arith, length-families)

    pub plain_sound : 1 ≤ vars → vars ≤ MAX_VARS → length nodes ≤ capacity → refusals < 2 ^ 64 → IsSound s
    unfolding plain_state
    plain_sound low' high' room small = record {
      empty = empty_known;
      unit = unit_known;
      families = families-fit;
      one_to_one = is.one_to_one;
      subs = λ h f e. subs s.vars h f e (families-fit h f e);
      distinct = held-distinct;
      room = omega (arith, length-held, room);
      planned = held-planned;
      vars_low = low';
      vars_high = high';
      counted = small;
      legal = tt;
    }
