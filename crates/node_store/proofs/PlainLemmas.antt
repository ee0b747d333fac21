-- The table of a store for one thread, as it grows.
use Rattle.std.proofs.Common.{◌≡◌, ℕ, ◌+◌, ◌-◌, ◌<◌, ◌≤◌, ◌⊎◌, inl, inr, Bool, true, false, Option, Some, None, List, [], position, get_or}
use Rattle.std.proofs.Common.{◌∷◌, ◌++◌, slice_get, length, refl, sym, ◌∙◌, ap, arith, rules}
use Rattle.std.proofs.lemmas.Bool.{and_parts}
use Rattle.std.proofs.lemmas.List.Folds.{list_any_at}
use Rattle.std.proofs.lemmas.List.Quantifiers.{position-Some}
use Rattle.std.proofs.lemmas.Map.Entries.{place_from_lookup}
use Rattle.std.proofs.lemmas.Option.{slice_get_read, slice_get_within, get_or_from_slice_get}
use Rattle.std.specs.List.{list_any, Contains}
use Rattle.std.specs.Map.{lookup}
use Rattle.std.specs.Prelude.{IfSome, Err}
use Rattle.lattice.specs.Words.{Family, Has, is_distinct, level, Rose}
use Rattle.lattice.proofs.Diagrams.{covers_more, Has_at, index_of, none_of, covered_length, get_cases, level-nil, level-unit, join_parts}
use Rattle.node_store.specs.Stores.{State, Knows, family, node_family, IsNode, IsSound, Adds, Grows, Builds, IsResult}
use Rattle.node_store.specs.Plain.{families, plain_state, IsTable, AreResults}
use Rattle.node_store.specs.PlainLaws.{get_more, get_last, grown-push, two_on, entry, length-families, length-held, held-known, plain_sound}
use Rattle.node_store.specs.PlainOf.{state_of}
use Rattle.node_store.specs.declared.store.Handle.{Handle}
use Rattle.node_store.specs.declared.store.Node.{Node}
use Rattle.node_store.specs.declared.store.Full.{Full}
use Rattle.node_store.specs.declared.key.Key.{Key}
use Rattle.node_store.specs.declared.plain.PlainStore.{PlainStore}
use Rattle.node_store.specs.contracts.key.KeyPartialEq.TheImpl as key_eq
use Rattle.node_store.specs.contracts.store.NodePartialEq.TheImpl as node_eq
use Rattle.node_store.proofs.StoreLaws.{Knows-denotes, filled, node_level, Grows-node, Grows-node_family, Grows-result}

abbrev pub same_node : Node → Node → Bool
same_node = node_eq.eq-value.it

abbrev pub same_key : Key → Key → Bool
same_key = key_eq.eq-value.it

-- ---- what a look-up says

pub found_at : (n : Node) (ns : List Node) (i : ℕ) → Some i ≡ position (same_node n) ns → slice_get ns i ≡ Some n
found_at n ns i e =
    let at = position-Some (same_node n) ns i n (sym e) in let same : same_node n (get_or ns i n) ≡ true = at.1 in
    slice_get_read ns (length ns) i n refl at.0 (search rules)

same_node-refl : (a : Node) → same_node a a ≡ true
same_node-refl a = search rules

pub absent : (n : Node) (ns : List Node) (k : ℕ) → list_any (same_node n) ns ≡ false → slice_get ns k ≡ Some n → ⊥
absent n ns k h e =
    let it = list_any_at (same_node n) ns k n (slice_get_within ns k n e) (rw (get_or_from_slice_get ns k n n e) (same_node-refl n)) in cc

-- a list has what a place of it has
pub there : (ns : List Node) (n : Node) (k : ℕ) → slice_get ns k ≡ Some n → Contains ns n
there ns n k e = (k, slice_get_within ns k n e, get_or_from_slice_get ns k n n e)

pub not_there : (n : Node) (ns : List Node) → list_any (same_node n) ns ≡ false → Contains ns n → ⊥
not_there n ns none has = absent n ns has.0 none (slice_get_read ns (length ns) has.0 n refl has.1 (sym has.2))

pub kept_found : (s : State) (es : List (Key × Handle)) (k : Key) (found : Option Handle) → AreResults s es
    → found ≡ lookup (same_key k) es → IfSome found (IsResult s k.op k.a k.b)
kept_found s es k None is e = tt
kept_found s es k (Some r) is e =
    let at = place_from_lookup (same_key k) es r (sym e) in let same : same_key k at.1 ≡ true = at.3 in
    let keys : k ≡ at.1 = search rules in rw keys (is at.0 (at.1, r) at.2)

-- ---- no node

pub nothing_yet : (vars capacity : ℕ) (plan : List Family) (nodes : List Node) → nodes ≡ []
    → IsTable (plain_state vars capacity plan 0 nodes) nodes
unfolding plain_state families
nothing_yet vars capacity plan nodes e = grind (arith, slice_get, slice_get_within)

-- ---- a node that is in no slot

pub sound : (s : PlainStore) → IsSound (state_of s)
sound s = plain_sound s.vars s.capacity s.plan.families s.refused s.nodes.keys s.table s.sizes.0 s.sizes.1 s.room s.counted

module _ (s : PlainStore) (n : Node) (node : IsNode (state_of s) n) (none : list_any (same_node n) s.nodes.keys ≡ false) where
  abbrev t : State
  t = state_of s

  ok : IsSound t
  ok = sound s

  same_handle : (a b : Handle) → Knows t a → Knows t b → family t a ≡ family t b → a.0 ≡ b.0
  same_handle a b ka kb e = ok.one_to_one a.0 b.0 (family t b) (Knows-denotes t a ka ∙ ap Some e) (Knows-denotes t b kb)

  same_family : (m : Node) → IsNode t m → node_family t m ≡ node_family t n → m ≡ n
  same_family m nm e =
      let a = nm.parts in let b = node.parts in
      let parts = join_parts t.vars (t.vars - m.var) (t.vars - n.var) (family t m.lo) (family t m.hi) (family t n.lo) (family t n.hi)
      a.lo_after a.hi_after b.lo_after b.hi_after (filled t m.hi ok a.hi_known nm.full) (filled t n.hi ok b.hi_known node.full)
      (omega (arith, a)) (omega (arith, b)) e in
      let v : m.var ≡ n.var = omega (arith, a, b, parts.0) in
      let l = same_handle m.lo n.lo a.lo_known b.lo_known parts.1 in let h = same_handle m.hi n.hi a.hi_known b.hi_known parts.2 in
      λ i. record { var = v i; lo = record { 0 = l i }; hi = record { 0 = h i } }

  -- its family has no handle
  pub fresh : (h : ℕ) → t.known h ≡ Some (node_family t n) → ⊥
  fresh h e =
      let one = node_level t t n (node_family t n) ok node refl refl in
      elim (entry s.vars s.capacity s.plan.families s.refused s.nodes.keys s.table h (node_family t n) e) [
        | inl x ↦ omega (arith, ap (level t.vars) x, level-nil t.vars)
        | inr (inl x) ↦ omega (arith, ap (level t.vars) x, level-unit t.vars)
        | inr (inr z) ↦ absent n s.nodes.keys z.0 none (z.3 ∙ ap Some (same_family z.1 (s.table.node z.0 z.1 z.3) (sym z.4)))
      ]

  -- where each slot is taken, the plan has more families than the store has slots
  pub over : Has t.plan (node_family t n) → length s.nodes.keys ≡ s.capacity → s.capacity < length s.plan.families
  unfolding plain_state
  over planned full =
      let F = node_family t n in
      let at = held-known s.vars s.capacity s.plan.families s.refused s.nodes.keys s.table F in
      let out = none_of t.held F (λ h. fresh ((at h).0 + 2) (at h).1) in
      let apart = (and_parts (is_distinct t.held) _ ok.distinct).0 in
      let all : is_distinct (F ∷ t.held) ≡ true = rw (out, apart) refl in
      let covers = covers_more t.plan t.held F planned ok.planned in
      let held = length-held s.vars s.capacity s.plan.families s.refused s.nodes.keys s.table in
      omega (arith, covered_length (F ∷ t.held) t.plan all covers, held)

-- ---- one more node

module _ (s : PlainStore) (n : Node) where
  abbrev old : State
  old = state_of s

  abbrev pub pushed_state : State
  pushed_state = plain_state s.vars s.capacity s.plan.families s.refused (s.nodes.keys ++ n ∷ [])

  abbrev fs : List Family
  fs = families s.vars s.nodes.keys

  new-known : (h : ℕ) → pushed_state.known h ≡ slice_get (fs ++ node_family old n ∷ []) h
  unfolding families plain_state
  new-known h = ap (λ gs. slice_get gs h) (grown-push s.vars ([] ∷ (0 ∷ []) ∷ []) s.nodes.keys n)

  kept : (h : ℕ) (f : Family) → old.known h ≡ Some f → pushed_state.known h ≡ Some f
  unfolding plain_state
  kept h f e = new-known h ∙ get_more fs (node_family old n ∷ []) h f e

  pub push_grows : Grows old pushed_state
  unfolding plain_state
  push_grows = grind (arith, kept, index_of, Has_at, two_on)

  pub push_new : pushed_state.known (length s.nodes.keys + 2) ≡ Some (node_family old n)
  push_new =
      let more = length-families s.vars s.capacity s.plan.families s.refused s.nodes.keys in
      let long : length s.nodes.keys + 2 ≡ length fs = omega arith in rw long (new-known (length fs) ∙ get_last fs (node_family old n))

  known_cases : (h : ℕ) (f : Family) → pushed_state.known h ≡ Some f
      → (old.known h ≡ Some f) ⊎ ((h ≡ length s.nodes.keys + 2) × (node_family old n ≡ f))
  unfolding plain_state
  known_cases h f e = grind (arith, get_cases, new-known, length-families s.vars s.capacity s.plan.families s.refused s.nodes.keys)

  module _ (node : IsNode old n) (planned : Has old.plan (node_family old n)) where
    at_slot : (k : ℕ) (m : Node) → slice_get (s.nodes.keys ++ n ∷ []) k ≡ Some m
        → IsNode old m × (pushed_state.known (k + 2) ≡ Some (node_family old m)) × Has old.plan (node_family old m)
    at_slot k m e = elim (get_cases s.nodes.keys n k m e) [
      | inl x ↦ (s.table.node k m x, kept (k + 2) _ (s.table.here k m x), s.table.planned k m x)
      | inr x ↦ rw (x.0, ← x.1) (node, push_new, planned)
    ]

    same : (k : ℕ) (m : Node) → slice_get (s.nodes.keys ++ n ∷ []) k ≡ Some m → node_family pushed_state m ≡ node_family old m
    same k m e = Grows-node_family old pushed_state m push_grows (at_slot k m e).0

    pub push_table : list_any (same_node n) s.nodes.keys ≡ false → IsTable pushed_state (s.nodes.keys ++ n ∷ [])
    push_table none = record {
      node = λ k m e. Grows-node old pushed_state m push_grows (at_slot k m e).0;
      here = λ k m e. rw (same k m e) (at_slot k m e).1;
      planned = λ k m e. rw (same k m e, push_grows.plan) (at_slot k m e).2;
      one_to_one = λ i j f a b. grind (arith, known_cases i f a, known_cases j f b, fresh s n node none, s.table.one_to_one i j f);
    }

-- ---- a refusal

module _ (s : PlainStore) (q : ℕ) (more : s.refused ≤ q) where
  abbrev full : State
  full = plain_state s.vars s.capacity s.plan.families q s.nodes.keys

  pub refused_grows : Grows (state_of s) full
  unfolding plain_state
  refused_grows = let still : Adds [] [] = ([], refl) in search arith

  pub refused_gives : Rose s.refused q → s.capacity < length s.plan.families → (e : Full) (f : Family) → Builds (state_of s) full (Err e) f
  unfolding plain_state
  refused_gives rose over e f = search (refused_grows, rules)

  pub refused_table : IsTable full s.nodes.keys
  unfolding plain_state
  refused_table = search (Grows-node (state_of s) full, refused_grows, s.table.node, s.table.here, s.table.planned, s.table.one_to_one)

pub results_later : (s t : State) (es : List (Key × Handle)) → Grows s t → AreResults s es → AreResults t es
results_later s t es grows is i e at = Grows-result s t e.0.op e.0.a e.0.b e.1 grows (is i e at)
