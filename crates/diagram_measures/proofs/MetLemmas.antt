-- The nodes that were met: what is found, what is added, and what both parts of a node give.
use Rattle.std.proofs.Common.{◌≡◌, ◌≢◌, ℕ, suc, ◌+◌, ◌-◌, ◌^◌, ◌<◌, ◌≤◌, ◌⊎◌, ◌↔◌, inl, inr, Bool, true, false, Some, List, [], ◌∷◌}
use Rattle.std.proofs.Common.{All, length, map, refl, sym, ◌∙◌, ap, subst, arith, rules}
use Rattle.std.specs.Map.{keys_of, lookup}
use Rattle.std.specs.List.{AllByRecursion, IsDistinct}
use Rattle.std.proofs.lemmas.Bool.{cases_Bool}
use Rattle.std.proofs.lemmas.List.{length-map, nil_from_length}
use Rattle.std.proofs.lemmas.List.Elements.{All-nil, All-cons, All-head, All-tail, All-weaker, All-map}
use Rattle.std.proofs.lemmas.Map.Entries.{lookup_head, lookup_tail}
use Rattle.std.proofs.lemmas.Map.Keys.{IsDistinct-head, IsDistinct-tail}
use Rattle.std.proofs.Math.Pow.{pow_mono}
use Rattle.indexmap.specs.IndexMap.{insert_entry}
use Rattle.lattice.specs.Words.{Family, IsFamily, Has, Covers, is_distinct, join, level, sub, working_set}
use Rattle.lattice.specs.declared.limits.TheConstants.{MAX_VARS}
use Rattle.lattice.proofs.Diagrams.{Has-nil, Has-cases, Has-head, Has-tail, none_of, covers_each, covers_family, covers_nil}
use Rattle.lattice.proofs.Diagrams.{sub-join_low, sub-join_high, sub-join_self, sub-join_cases, sub-narrow, sub-zero, level-below}
use Rattle.node_store.specs.Stores.{State, Knows, family, node_family, IsNode, IsSound, Grows}
use Rattle.node_store.specs.declared.store.Handle.{Handle}
use Rattle.node_store.specs.declared.store.Node.{Node}
use Rattle.node_store.specs.contracts.store.HandlePartialEq.TheImpl as handle_eq
use Rattle.node_store.proofs.StoreLaws.{Knows-denotes, Grows-family, Grows-knows, Grows-trans, constant, families_later, filled}
use Rattle.node_store.proofs.StoreLaws.{known_after, node_level}
use Rattle.diagram_measures.specs.Measured.{nodes_of}
use Rattle.diagram_measures.specs.Met.{AreCounts, IsCounted, AreMet, Meets, families_met}
use Rattle.diagram_measures.specs.declared.measured.Counts.{Counts}
use Rattle.diagram_measures.proofs.MeasureLemmas.{counts_within, nodes_same}

abbrev pub same_handle : Handle → Handle → Bool
same_handle = handle_eq.eq-value.it

handle_is : (a b : Handle) → same_handle a b ≡ true → a ≡ b
handle_is a b same = search rules

handle_same : (a b : Handle) → a.0 ≡ b.0 → same_handle a b ≡ true
handle_same a b same = search rules

-- what was met is known
pub met_known : (s : State) (met : List (Handle × Counts)) → All (IsCounted s) met → All (Knows s) (keys_of met)
met_known s met counted = All-map (Knows s) (λ (e : Handle × Counts). e.0) met
    (All-weaker (IsCounted s) (λ e. Knows s e.0) (λ e is. is.known) met counted)

families_met-later : (s t : State) (met : List (Handle × Counts)) → Grows s t → All (IsCounted s) met
    → families_met t met ≡ families_met s met
families_met-later s t met grows counted = families_later s t (keys_of met) grows (met_known s met counted)

counted_later : (s t : State) (e : Handle × Counts) → Grows s t → IsCounted s e → IsCounted t e
counted_later s t e grows is = let same = Grows-family s t e.0 grows is.known in
    record { known = Grows-knows s t e.0 grows is.known; counts = rw same is.counts }

-- what was met stays so
pub met_later : {s t : State} {met : List (Handle × Counts)} → Grows s t → AreMet s met → AreMet t met
met_later {s} {t} {met} grows are = record {
  counted = All-weaker (IsCounted s) (IsCounted t) (λ e is. counted_later s t e grows is) met are.counted;
  whole = rw (families_met-later s t met grows are.counted, grows.vars) are.whole;
}

-- ---- a handle that was met

found : (s : State) (met : List (Handle × Counts)) (a : Handle) (c : Counts) → All (IsCounted s) met → lookup (same_handle a) met ≡ Some c
    → AreCounts (family s a) c × Has (families_met s met) (family s a)
found s [] a c counted is = cc
found s (e ∷ es) a c counted is = elim (cases_Bool (same_handle a e.0)) [
  | inl same ↦
      let here : e.1 ≡ c = cc (lookup_head (same_handle a) e es same, is) in
      let key : a ≡ e.0 = handle_is a e.0 same in
      (rw (key, ← here) (All-head (IsCounted s) e es counted).counts, rw key (Has-head (family s e.0) (families_met s es)))
  | inr other ↦
      let rest = found s es a c (All-tail (IsCounted s) e es counted) (sym (lookup_tail (same_handle a) e es other) ∙ is) in
      (rest.0, Has-tail (family s e.0) (families_met s es) (family s a) rest.1)
]

-- nothing is met anew where a list of families has all nodes of the diagram
meets_none : (n : ℕ) (f : Family) (fs : List Family) → Covers fs (sub n f) → Meets n f fs fs
meets_none n f fs all g = (λ h. inl h, λ h. elim h [ inl i ↦ i | inr i ↦ all g i ])

-- a handle that was met has the counts that were kept, and all nodes of its diagram were met
pub met_before : {s t : State} {met : List (Handle × Counts)} (a : Handle) (c : Counts) → Grows s t → AreMet s met
    → Some c ≡ lookup (same_handle a) met
    → AreCounts (family s a) c × Meets s.vars (family s a) (families_met s met) (families_met t met)
met_before {s} {t} {met} a c grows are is =
    let there = found s met a c are.counted (sym is) in let fs = families_met s met in let f = family s a in (
      there.0,
      rw (families_met-later s t met grows are.counted)
          (meets_none s.vars f fs (covers_family s.vars fs fs f are.whole there.1)),
    )

-- a constant has no nodes
pub meets_constant : (s t : State) (a : Handle) (met : List (Handle × Counts)) → IsSound s → a.0 < 2 → Grows s t → AreMet s met
    → Meets s.vars (family s a) (families_met s met) (families_met t met)
meets_constant s t a met sound small grows are =
    let f = family s a in let none : sub s.vars f ≡ [] = sub-narrow 0 s.vars f (constant s a sound small) (omega arith) ∙ sub-zero f in
    rw (families_met-later s t met grows are.counted)
    (meets_none s.vars (family s a) (families_met s met) (λ g h. absurd (Has-nil g (rw none at h))))

-- ---- a handle that is added

counted_added : (s : State) (es : List (Handle × Counts)) (a : Handle) (c : Counts) → All (IsCounted s) es → IsCounted s (a, c)
    → All (IsCounted s) (insert_entry same_handle es a c)
counted_added s [] a c counted is = All-cons (IsCounted s) (a, c) [] is (All-nil (IsCounted s))
counted_added s (e ∷ es) a c counted is =
    let rest = All-tail (IsCounted s) e es counted in
    elim (cases_Bool (same_handle a e.0)) [
      | inl same ↦
          let key : a ≡ e.0 = handle_is a e.0 same in
          rw same (All-cons (IsCounted s) (e.0, c) es (subst (λ (k : Handle). IsCounted s (k, c)) key is) rest)
      | inr other ↦
          let more = counted_added s es a c rest is in
          rw other (All-cons (IsCounted s) e (insert_entry same_handle es a c) (All-head (IsCounted s) e es counted) more)
    ]

families_added : (s : State) (es : List (Handle × Counts)) (a : Handle) (c : Counts) (f g : Family) → family s a ≡ f
    → Has (families_met s (insert_entry same_handle es a c)) g ↔ (Has (families_met s es) g ⊎ (f ≡ g))
families_added s [] a c f g is = (
  λ h. elim (Has-cases (family s a) [] g h) [ inl x ↦ inr (sym is ∙ x) | inr i ↦ inl i ],
  λ h. elim h [ inl i ↦ absurd (Has-nil g i) | inr x ↦ subst (Has (family s a ∷ [])) (is ∙ x) (Has-head (family s a) []) ],
)
families_added s (e ∷ es) a c f g is = elim (cases_Bool (same_handle a e.0)) [
  | inl same ↦
      let key : family s e.0 ≡ f = ap (family s) (sym (handle_is a e.0 same)) ∙ is in
      rw same (
        λ h. inl h,
        λ h. elim h [
          | inl i ↦ i
          | inr x ↦ subst (Has (family s e.0 ∷ families_met s es)) (key ∙ x) (Has-head (family s e.0) (families_met s es))
        ],
      )
  | inr other ↦
      let rest = families_added s es a c f g is in let fs = families_met s (insert_entry same_handle es a c) in
      rw other (
        λ h. elim (Has-cases (family s e.0) fs g h) [
          | inl x ↦ inl (subst (Has (family s e.0 ∷ families_met s es)) x (Has-head (family s e.0) (families_met s es)))
          | inr i ↦ elim (rest.0 i) [ inl j ↦ inl (Has-tail (family s e.0) (families_met s es) g j) | inr x ↦ inr x ]
        ],
        λ h. elim h [
          | inl i ↦ elim (Has-cases (family s e.0) (families_met s es) g i) [
            | inl x ↦ subst (Has (family s e.0 ∷ fs)) x (Has-head (family s e.0) fs)
            | inr j ↦ Has-tail (family s e.0) fs g (rest.1 (inl j))
          ]
          | inr x ↦ Has-tail (family s e.0) fs g (rest.1 (inr x))
        ],
      )
]

-- ---- a node over parts that were counted

-- what is met after both parts of a family and the family itself
meets_join : (n d : ℕ) (lo hi f : Family) (before middle after last : List Family) → IsFamily d lo → IsFamily d hi → hi ≢ [] → d < n
    → f ≡ join d lo hi → Meets n lo before middle → Meets n hi middle after → ((g : Family) → Has last g ↔ (Has after g ⊎ (f ≡ g)))
    → Meets n f before last
meets_join n d lo hi f before middle after last lf hf some less whole one two added g =
    let low : Has (sub n lo) g → Has (sub n f) g = λ h. rw whole (sub-join_low d n lo hi lf hf less g h) in
    let high : Has (sub n hi) g → Has (sub n f) g = λ h. rw whole (sub-join_high d n lo hi lf hf less g h) in
    let self : Has (sub n f) f = rw whole (sub-join_self d n lo hi lf hf less some) in
    let cases : Has (sub n f) g → (f ≡ g) ⊎ (Has (sub n lo) g ⊎ Has (sub n hi) g) =
    rw whole (sub-join_cases d n lo hi lf hf less some g) in (
      λ h. elim ((added g).0 h) [
        | inl i ↦ elim ((two g).0 i) [
          | inl j ↦ elim ((one g).0 j) [ inl k ↦ inl k | inr k ↦ inr (low k) ]
          | inr j ↦ inr (high j)
        ]
        | inr x ↦ inr (subst (Has (sub n f)) x self)
      ],
      λ h. elim h [
        | inl i ↦ (added g).1 (inl ((two g).1 (inl ((one g).1 (inl i)))))
        | inr i ↦ elim (cases i) [
          | inl x ↦ (added g).1 (inr x)
          | inr j ↦ elim j [
            | inl k ↦ (added g).1 (inl ((two g).1 (inl ((one g).1 (inr k)))))
            | inr k ↦ (added g).1 (inl ((two g).1 (inr k)))
          ]
        ]
      ],
    )

-- with the family all nodes of its diagram were met
whole_after : (n : ℕ) (f : Family) (before after last : List Family) → Covers after (working_set n after) → Meets n f before last
    → ((g : Family) → Has last g ↔ (Has after g ⊎ (f ≡ g))) → Covers last (working_set n last)
whole_after n f before after last whole meets added = covers_each n last last (λ g h k j. elim ((added g).0 h) [
  | inl i ↦ (added k).1 (inl (covers_family n after after g whole i k j))
  | inr x ↦ (meets k).1 (inr (subst (λ y. Has (sub n y) k) (sym x) j))
])

-- the node of a handle was asked for in state s, and t is the state after that
pub record IsAsked (s t : State) (a : Handle) (node : Node) : Type 0 where
  pub sound : IsSound t
  pub known : Knows s a
  pub grows : Grows s t
  pub is : IsNode t node
  pub whole : node_family t node ≡ family s a

module _ {s t : State} {a : Handle} {node : Node} (asked : IsAsked s t a node) where
  first_falls : level s.vars (family s a) ≡ suc (s.vars - node.var)
  first_falls = node_level s t node (family s a) asked.sound asked.is asked.grows.vars (sym asked.whole)

  high_some : family t node.hi ≢ []
  high_some = filled t node.hi asked.sound asked.is.parts.hi_known asked.is.full

  -- the low part has a later first variable
  pub low_falls : level t.vars (family t node.lo) < level s.vars (family s a)
  low_falls =
      let last = level-below (t.vars - node.var) t.vars (family t node.lo) asked.is.parts.lo_after (omega arith) in
      omega (arith, first_falls, asked.grows.vars, last)

-- u is the state after the low part was counted
module _ {s t u : State} {a : Handle} {node : Node} (asked : IsAsked s t a node) (first : Grows t u) where
  high_later : family u node.hi ≡ family t node.hi
  high_later = Grows-family t u node.hi first asked.is.parts.hi_known

  -- and so has the high part
  pub high_falls : level u.vars (family u node.hi) < level s.vars (family s a)
  high_falls =
      let last = level-below (t.vars - node.var) t.vars (family t node.hi) asked.is.parts.hi_after (omega arith) in
      rw (first.vars, high_later) (omega (arith, first_falls asked, asked.grows.vars, last))

  module _ {low high : Counts} (lo : AreCounts (family t node.lo) low) (hi : AreCounts (family u node.hi) high) where
    -- their counts are small
    pub parts_small : (low.terms + high.terms < 2 ^ 64) × (high.degree + 1 < 2 ^ 32)
    parts_small =
        let parts = asked.is.parts in let one = counts_within t.vars (known_after t node.lo asked.sound parts.lo_known) lo in
        let two = counts_within t.vars (known_after t node.hi asked.sound parts.hi_known) (rw high_later at hi) in
        let most : t.vars ≤ MAX_VARS = asked.sound.vars_high in let small : 2 ^ t.vars ≤ 2 ^ MAX_VARS = pow_mono most in
        (omega (arith, one.0, two.0, small), omega (arith, two.1, most))

    -- and give those of the family
    pub counts_node : {c : Counts} → ((d : ℕ) (f g : Family) → IsFamily d g → g ≢ [] → AreCounts f low → AreCounts g high
        → AreCounts (join d f g) c) → AreCounts (family s a) c
    counts_node by_parts = rw (← asked.whole) (by_parts (t.vars - node.var) (family t node.lo) (family t node.hi) asked.is.parts.hi_after
        (high_some asked) lo (rw high_later at hi))

  -- v is the state after the high part was counted too
  module _ {v : State} (second : Grows u v) where
    last_later : Grows s v
    last_later = Grows-trans s u v (Grows-trans s t u asked.grows first) second

    -- with the handle its nodes are met
    pub met_node : (c : Counts) (old low high : List (Handle × Counts)) → AreMet s old → AreMet v high → AreCounts (family s a) c
        → Meets t.vars (family t node.lo) (families_met t old) (families_met u low)
        → Meets u.vars (family u node.hi) (families_met u low) (families_met v high)
        → AreMet v (insert_entry same_handle high a c)
        × Meets s.vars (family s a) (families_met s old) (families_met v (insert_entry same_handle high a c))
    met_node c old low high before are counts one two =
        let n = t.vars in let d = t.vars - node.var in let lo = family t node.lo in let hi = family t node.hi in let f = family s a in
        let parts = asked.is.parts in let fs = families_met s old in let gs = families_met u low in let hs = families_met v high in
        let last = families_met v (insert_entry same_handle high a c) in
        let same : family v a ≡ f = Grows-family s v a last_later asked.known in
        let added : (g : Family) → Has last g ↔ (Has hs g ⊎ (f ≡ g)) = λ g. families_added v high a c f g same in
        let less : d < n = omega (arith, parts.first, parts.last) in
        let one' : Meets n lo fs gs = rw (← families_met-later s t old asked.grows before.counted) one in
        let two' : Meets n hi gs hs = rw (← first.vars, ← high_later) two in
        let meets : Meets n f fs last = meets_join n d lo hi f fs gs hs last parts.lo_after parts.hi_after (high_some asked) less
        (sym asked.whole) one' two' added in
        let vars : v.vars ≡ n = second.vars ∙ first.vars in
        let whole : Covers last (working_set n last) = whole_after n f fs hs last (rw vars at are.whole) meets added in
        let known = Grows-knows s v a last_later asked.known in
        let entry : IsCounted v (a, c) = record { known = known; counts = rw same counts } in
        (record { counted = counted_added v high a c are.counted entry; whole = rw vars whole }, rw (← asked.grows.vars) meets)

-- ---- all nodes

-- a known handle with another name has another family
not_again : (s : State) (k : Handle) (ks : List Handle) → IsSound s → Knows s k → All (Knows s) ks
    → AllByRecursion (λ x. same_handle k x ≡ false) ks → Has (map (family s) ks) (family s k) → ⊥
not_again s k [] sound known all apart h = Has-nil (family s k) h
not_again s k (x ∷ xs) sound known all apart h = elim (Has-cases (family s x) (map (family s) xs) (family s k) h) [
  | inl same ↦
      let here = Knows-denotes s k known in let there = Knows-denotes s x (All-head (Knows s) x xs all) ∙ ap Some same in
      cc (handle_same k x (sound.one_to_one k.0 x.0 (family s k) here there), apart.0)
  | inr i ↦ not_again s k xs sound known (All-tail (Knows s) x xs all) apart.1 i
]

families_distinct : (s : State) (ks : List Handle) → IsSound s → All (Knows s) ks → IsDistinct same_handle ks
    → is_distinct (map (family s) ks) ≡ true
families_distinct s [] sound all apart = refl
families_distinct s (k ∷ ks) sound all apart =
    let known = All-head (Knows s) k ks all in let rest = All-tail (Knows s) k ks all in
    rw (none_of (map (family s) ks) (family s k) (not_again s k ks sound known rest (IsDistinct-head same_handle k ks apart)))
    (families_distinct s ks sound rest (IsDistinct-tail same_handle k ks apart))

-- where nothing was met before, as many handles were met as there are nodes
pub nodes_met : (s t : State) (old met : List (Handle × Counts)) (n : ℕ) (f : Family) → length old ≡ 0 → IsSound t → AreMet t met
    → IsDistinct same_handle (keys_of met) → Meets n f (families_met s old) (families_met t met) → length met ≡ nodes_of n f
nodes_met s t old met n f none sound are distinct meets =
    let fs = families_met t met in let apart = families_distinct t (keys_of met) sound (met_known t met are.counted) distinct in
    let begun : Meets n f [] fs = rw (nil_from_length old none) at meets in
    let nodes : (g : Family) → Has fs g ↔ Has (sub n f) g =
    λ g. (λ h. elim ((begun g).0 h) [ inl i ↦ absurd (Has-nil g i) | inr i ↦ i ], λ h. (begun g).1 (inr h)) in
    omega (arith, nodes_same n f fs apart nodes, length-map (keys_of met) (family t), length-map met (λ (e : Handle × Counts). e.0))

-- before the first node
pub met_none : (s : State) (met : List (Handle × Counts)) → length met ≡ 0 → AreMet s met
met_none s met none = rw (nil_from_length met none) (record { counted = All-nil (IsCounted s); whole = covers_nil s.vars [] })
