-- Steps that keep a rule of a table whose first words are node words and whose others are cache words.
use Rattle.std.proofs.Common.{◌≡◌, ◌≢◌, ℕ, zero, suc, ◌+◌, ◌<◌, eqb, inl, inr, List, [], ◌∷◌, take, get_or, set, sym, refl, ap, ◌∙◌, arith}
use Rattle.std.proofs.Common.{length-set, get_or-set_same}
use Rattle.std.proofs.Common.{get_or-set_other}
use Rattle.std.proofs.Math.Seq.{take-set-lt}
use Rattle.std.proofs.lemmas.List.{set-get_or, take-set-le, get_or-take}
use mathlib.Core.Logic.{dite}
use mathlib.Core.Option.{some, some-ne-none}
use native.Mathlib.Decide.{ℕ_discrete}
use lib.ListN.{get_elem?}
use prog.Atomic.{either}
use Rattle.atomic_table.specs.Table.{Me, keeps, opening, Allows, Splits, Joins}
use Rattle.atomic_table.proofs.Lists.{at_set, at_snoc, set_else, exchanged}
use Rattle.unique_table.specs.ByViews.{ByViews, AreVacant, IsAlone}
use Rattle.unique_table.specs.TwoParts.{IsBoth, FitsNodes}

-- of one view the number is 0
one_view : {V : Type 0} (v w : V) (j : ℕ) → get_elem? (v ∷ []) j ≡ some w → j ≡ 0
one_view v w zero at = refl
one_view v w (suc j) at = absurd (some-ne-none w (sym at))

module _ {V : Type 0} (IsTable : List ℕ → Type 0) (Fits : List ℕ → V → Type 0) (IsNew : V → Type 0) where
  abbrev Views : List ℕ → List V → Type 0
  Views ws vs = (id : ℕ) (v : V) → get_elem? vs id ≡ some v → Fits ws v

  abbrev News : List ℕ → List V → Type 0
  News ws vs = (id : ℕ) (v : V) → get_elem? vs id ≡ some v → IsNew v → IsAlone vs id × AreVacant ws

  -- one view is replaced, and the words change so that every view that fitted fits still
  replaced : (ws ws' : List ℕ) (vs : List V) (id : ℕ) (w : V) → Views ws vs → ((v : V) → Fits ws v → Fits ws' v) → Fits ws' w
      → Views ws' (set vs id w)
  replaced ws ws' vs id w old stay new j u at = grind (arith, at_set)

  -- a new view is alone still where one view is replaced
  alone_still : (vs : List V) (id : ℕ) (w : V) → IsAlone vs id → IsAlone (set vs id w) id
  alone_still vs id w alone j u at = elim (at_set vs id j w u at) [ inl here ↦ here.0 | inr else ↦ alone j u else.1 ]

  -- where one view is replaced, no other is new
  no_other : (ws : List ℕ) (vs : List V) (id : ℕ) (v : V) → News ws vs → get_elem? vs id ≡ some v → (j : ℕ) (u : V) → j ≢ id
      → get_elem? vs j ≡ some u → IsNew u → ⊥
  no_other ws vs id v news at j u ne there new = ne (sym ((news j u there new).0 id v at))

  -- the view that replaces one is new only where that was, and then the words are what they were
  news_replaced : (ws ws' : List ℕ) (vs : List V) (id : ℕ) (v w : V) → News ws vs → get_elem? vs id ≡ some v
      → (IsNew w → IsNew v × (ws' ≡ ws)) → News ws' (set vs id w)
  news_replaced ws ws' vs id v w news at same j u there new = elim (at_set vs id j w u there) [
    | inl here ↦ let was = same (rw here.1 new) in let t = news id v at was.0 in
        (rw here.0 (alone_still vs id w t.0), rw was.1 t.1)
    | inr else ↦ absurd (no_other ws vs id v news at j u else.0 else.1 new)
  ]

  pub opens : (ws : List ℕ) (v : V) → IsTable ws → Fits ws v → AreVacant ws → ByViews IsTable Fits IsNew (opening ws [] v)
  opens ws v table fits vacant =
      let first : Views ws (v ∷ []) = λ j u at. grind (arith, at_snoc) in
      (table, first, λ j u at new. ((λ k x there. one_view v x k there ∙ sym (one_view v u j at)), vacant))

  pub splits : (id : ℕ) (v left right : V) → ((ws : List ℕ) → IsTable ws → Fits ws v → Fits ws left × Fits ws right)
      → (IsNew left → ⊥) → (IsNew right → ⊥) → Splits (ByViews IsTable Fits IsNew) id v left right
  splits id v left right cuts one two s kept at = let t = cuts s.words kept.0 (kept.1 id v at) in
      let old = replaced s.words s.words s.views id left kept.1 (λ _ h. h) t.0 in
      let none = news_replaced s.words s.words s.views id v left kept.2 at (λ new. absurd (one new)) in (
        kept.0,
        (λ j u e. grind (arith, at_snoc (set s.views id left) right u j e, old j u)),
        (λ j u e new. elim (at_snoc (set s.views id left) right u j e) [
          | inl there ↦ elim (at_set s.views id j left u there) [
            | inl here ↦ absurd (one (rw here.1 new))
            | inr else ↦ absurd (no_other s.words s.views id v kept.2 at j u else.0 else.1 new)
          ]
          | inr is ↦ absurd (two (rw is new))
        ]),
      )

  pub joins : (id : ℕ) (v : V) (other : ℕ) (w both spent : V)
      → ((ws : List ℕ) → IsTable ws → Fits ws v → Fits ws w → Fits ws both × Fits ws spent)
      → (IsNew both → IsNew v) → (IsNew spent → ⊥) → Joins (ByViews IsTable Fits IsNew) id v other w both spent
  joins id v other w both spent unites new_both new_spent s kept at apart at' =
      let there : get_elem? s.views other ≡ some w = sym (set_else s.views id other both apart) ∙ at' in
      let t = unites s.words kept.0 (kept.1 id v at) (kept.1 other w there) in
      let one = replaced s.words s.words s.views id both kept.1 (λ _ h. h) t.0 in (
        kept.0,
        replaced s.words s.words (set s.views id both) other spent one (λ _ h. h) t.1,
        (λ j u e new. elim (at_set (set s.views id both) other j spent u e) [
          | inl here ↦ absurd (new_spent (rw here.1 new))
          | inr else ↦ elim (at_set s.views id j both u else.1) [
            | inl mine ↦ absurd (apart ((kept.2 id v at (new_both (rw mine.1 new))).0 other w there))
            | inr old ↦ absurd (no_other s.words s.views id v kept.2 at j u old.0 old.1 new)
          ]
        ]),
      )

  module _ (me : Me (Unit {0}) V) (i : ℕ) (then : ℕ → Me (Unit {0}) V → Type 0) where
    -- what a step at the word i has to show where it leaves the word n, and where it leaves the words as they are
    abbrev pub Goes : List ℕ → ℕ → Type 0
    Goes ws n = (w : V) × IsTable (set ws i n) × ((v : V) → Fits ws v → Fits (set ws i n) v) × Fits (set ws i n) w
        × (IsNew w → IsNew me.0 × (n ≡ get_or ws i 0)) × then (get_or ws i 0) (w, me.1)

    abbrev pub Sees : List ℕ → Type 0
    Sees ws = (w : V) × Fits ws w × (IsNew w → IsNew me.0) × then (get_or ws i 0) (w, me.1)

    pub seen : (ws : List ℕ) → IsTable ws → Sees ws → Goes ws (get_or ws i 0)
    seen ws table t = let same : set ws i (get_or ws i 0) ≡ ws = set-get_or ws i 0 in
        (t.0, rw same table, (λ v f. rw same f), rw same t.1, (λ new. (t.2 new, refl)), t.3)

    -- in a table of which the seat is new each word is vacant
    abbrev pub IfNew : List ℕ → Type 0
    IfNew ws = IsNew me.0 → AreVacant ws

    pub moves : (slots id : ℕ) (f : ℕ → ℕ) → ((ws : List ℕ) → IsTable ws → Fits ws me.0 → IfNew ws → Goes ws (f (get_or ws i 0)))
        → Allows (ByViews IsTable Fits IsNew) slots id me i f then
    moves slots id f goes s kept _ at _ =
        let t = goes s.words kept.0 (kept.1 id me.0 at) (λ new. (kept.2 id me.0 at new).1) in let x = f (get_or s.words i 0) in
        let same : IsNew t.0 → IsNew me.0 × (set s.words i x ≡ s.words) = λ new. let is = t.4 new in
        (is.0, ap (set s.words i) is.1 ∙ set-get_or s.words i 0) in (
          t.0,
          keeps,
          tt,
          (
            t.1,
            replaced s.words (set s.words i x) s.views id t.0 kept.1 t.2 t.3,
            news_replaced s.words (set s.words i x) s.views id me.0 t.0 kept.2 at same,
          ),
          t.5,
        )

module _ {V : Type 0} (n m : ℕ) (IsTable : List ℕ → Type 0) (Fits : List ℕ → V → Type 0) (IsNew : V → Type 0)
    (IsTrue : List ℕ → ℕ → ℕ → Type 0) (slots id : ℕ) (me : Me (Unit {0}) V) (i : ℕ) where
  abbrev Both : List ℕ → Type 0
  Both = IsBoth n m IsTable IsTrue

  abbrev Nodes : List ℕ → V → Type 0
  Nodes = FitsNodes n Fits

  module _ (then : ℕ → Me (Unit {0}) V → Type 0) (inside : (ws : List ℕ) → Fits ws me.0 → i < n) where
    -- a step at a node word, which keeps true what is true
    node_goes : (ws : List ℕ) (x : ℕ) → Both ws → Nodes ws me.0
        → ((p y : ℕ) → IsTrue (take n ws) p y → IsTrue (set (take n ws) i x) p y) → Goes IsTable Fits IsNew me i then (take n ws) x
        → Goes Both Nodes IsNew me i then ws x
    node_goes ws x both fits stay t = grind (arith, take-set-lt, inside, length-set, set, get_or-set_other, get_or-take)

    node_sees : (ws : List ℕ) → Both ws → Nodes ws me.0 → Sees IsTable Fits IsNew me i then (take n ws)
        → Goes Both Nodes IsNew me i then ws (get_or ws i 0)
    node_sees ws both fits t = let e : get_or (take n ws) i 0 ≡ get_or ws i 0 = get_or-take n ws i 0 (inside (take n ws) fits) in
        seen Both Nodes IsNew me i then ws both (t.0, t.1, t.2, rw e at t.3)

    -- the node word is vacant where all words are
    front_vacant : (ws : List ℕ) → Nodes ws me.0 → (IsNew me.0 → AreVacant ws) → IsNew me.0 → get_or (take n ws) i 0 ≡ 0
    front_vacant ws fits vacant new = get_or-take n ws i 0 (inside (take n ws) fits) ∙ vacant new i

    -- a load of a node word
    pub node_looks : ((ws : List ℕ) → IsTable ws → Fits ws me.0 → (IsNew me.0 → get_or ws i 0 ≡ 0) → Sees IsTable Fits IsNew me i then ws)
        → Allows (ByViews Both Nodes IsNew) slots id me i (λ k. k) then
    node_looks sees = moves Both Nodes IsNew me i then slots id (λ k. k)
        (λ ws both fits vacant. node_sees ws both fits (sees (take n ws) both.nodes fits (front_vacant ws fits vacant)))

    -- an exchange of a node word, whose win keeps true what is true
    pub node_trades : (old new : ℕ)
        → ((ws : List ℕ) → IsTable ws → Fits ws me.0 → get_or ws i 0 ≡ old
        → Goes IsTable Fits IsNew me i then ws new × ((p y : ℕ) → IsTrue ws p y → IsTrue (set ws i new) p y))
        → ((ws : List ℕ) → IsTable ws → Fits ws me.0 → (IsNew me.0 → get_or ws i 0 ≡ 0) → get_or ws i 0 ≢ old
        → Sees IsTable Fits IsNew me i then ws)
        → Allows (ByViews Both Nodes IsNew) slots id me i (λ k. either (eqb k old) new k) then
    node_trades old new wins loses = moves Both Nodes IsNew me i then slots id (λ k. either (eqb k old) new k) (λ ws both fits vacant.
        let e : get_or (take n ws) i 0 ≡ get_or ws i 0 = get_or-take n ws i 0 (inside (take n ws) fits) in
        exchanged (get_or ws i 0) old new (Goes Both Nodes IsNew me i then ws)
        (λ hit. let t = wins (take n ws) both.nodes fits (e ∙ hit) in node_goes ws new both fits t.1 t.0)
        (λ miss. node_sees ws both fits
        (loses (take n ws) both.nodes fits (front_vacant ws fits vacant) (λ is. miss (sym e ∙ is)))))

  module _ (p : ℕ) (inside : (ws : List ℕ) → Fits ws me.0 → (p < m) × (i ≡ n + p)) where
    -- a load of a cache word, which is true at its place
    pub cache_looks : (then : ℕ → Me (Unit {0}) V → Type 0)
        → ((ws : List ℕ) → IsTable ws → Fits ws me.0 → (x : ℕ) → IsTrue ws p x → (IsNew me.0 → x ≡ 0)
        → (w : V) × Fits ws w × (IsNew w → IsNew me.0) × then x (w, me.1))
        → Allows (ByViews Both Nodes IsNew) slots id me i (λ k. k) then
    cache_looks then sees = moves Both Nodes IsNew me i then slots id (λ k. k) (λ ws both fits vacant. let at = inside (take n ws) fits in
        seen Both Nodes IsNew me i then ws both
        (sees (take n ws) both.nodes fits (get_or ws i 0) (rw at.1 (both.cache p at.0)) (λ new. vacant new i)))

    -- a store of a cache word that is true at the place, whatever the node words are that the seat's view fits
    pub cache_stores : (x : ℕ) (then : Me (Unit {0}) V → Type 0)
        → ((ws : List ℕ) → IsTable ws → Fits ws me.0 → IsTrue ws p x × ((w : V) × Fits ws w × (IsNew w → ⊥) × then (w, me.1)))
        → Allows (ByViews Both Nodes IsNew) slots id me i (λ _. x) (λ _. then)
    cache_stores x then shows = moves Both Nodes IsNew me i (λ _. then) slots id (λ _. x) (λ ws both fits _.
        let at = inside (take n ws) fits in let t = shows (take n ws) both.nodes fits in
        let e : take n (set ws i x) ≡ take n ws = take-set-le n ws i x (omega arith) in
        let cache : (q : ℕ) → q < m → IsTrue (take n ws) q (get_or (set ws i x) (n + q) 0) = λ q less. dite (ℕ_discrete q p)
        (λ same. grind (arith, get_or-set_same ws i x 0, both.size))
        (λ ne. rw (get_or-set_other ws i (n + q) x 0 (λ k. omega arith)) (both.cache q less)) in (
          (t.1).0,
          record { size = length-set ws i x ∙ both.size; nodes = rw e both.nodes; cache = rw e cache },
          (λ v f. rw e f),
          rw e (t.1).1,
          (λ new. absurd ((t.1).2 new)),
          (t.1).3,
        ))
