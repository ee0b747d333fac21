-- What the calls of a pass leave, as calls of a store.
use Rattle.std.proofs.Common.{◌≡◌, ℕ, suc, ◌+◌, ◌-◌, ◌^◌, ◌<◌, ◌≤◌, Some, None, Ok, Err, Option, IsNone, IfSome, IfNone, List, []}
use Rattle.std.proofs.Common.{◌∷◌, ◌++◌, ◌∙◌, zero, ◌==◌, true, false, length-append, eq-eqb, eqb-true, length, sym, refl, ◌↔◌, ◌⊎◌}
use Rattle.std.proofs.Common.{subst, arith, pow_mono}
use Rattle.lattice.specs.Words.{Family, Has, var_of, lo_of, hi_of, place, cache_bits, refused}
use Rattle.std.proofs.lemmas.List.{append-nil, append_assoc}
use Rattle.std.proofs.lemmas.List.Elements.{Contains-append_right}
use Rattle.std.proofs.lemmas.Nat.{pow_pos}
use Rattle.lattice.specs.declared.entry.Entry.{Entry}
use Rattle.lattice.specs.declared.entry.Entry.TheVariants.{Met, Ask, Full}
use Rattle.lattice.proofs.Diagrams.{refusals_of-grows, refusals_of-quiet, refusals_of-refused, refused-append, hi_of-word, lo_of-word}
use Rattle.lattice.proofs.Diagrams.{path_is_whole, place_below, var_of-word}
use Rattle.node_store.specs.Stores.{State, Knows, family, node_family, IsNode, Grows, Reads, Builds}
use Rattle.node_store.specs.PackedNodes.{IsPackable, IsPacked}
use Rattle.node_store.specs.declared.store.Node.{Node}
use Rattle.node_store.specs.declared.store.Handle.{Handle}
use Rattle.node_store.proofs.StoreLaws.{some_is}
use Rattle.probe_core.proofs.ProbedWords.{node_of, packed}
use Rattle.atomic_table.specs.Seated.{TableId}
use Rattle.unique_table.specs.declared.view.View.{View}
use Rattle.unique_table.specs.Kept.{IsKept}
use Rattle.unique_table.specs.Views.{name_of, known_by, steps_of, after_load, after_store, view_state}
use Rattle.unique_table.specs.Told.{AreChildren, HasChildren, MetOther, IsAsked, IsNext, Passes, IsCrowded, Goes, Meets}
use Rattle.unique_table.specs.Told.{PassesBy, Stands, Interned, AllOthers, Looked, Stored, Sat}
use Rattle.unique_table.specs.Rule.{IsNew}
use Rattle.unique_table.specs.Walks.{Walked}
use Rattle.unique_table.specs.Passes.{word_of, IsUntouched, IsInterned, FindsFull, HasMet}
use Rattle.unique_table.specs.PassOf.{AreOfOne, pass_state, pass_steps, pass_sound, bits_of}
use Rattle.unique_table.specs.declared.pass.Pass.{Pass}
use Rattle.unique_table.proofs.Fitting.{over}
use Rattle.unique_table.proofs.PassNeeds.{small_known}

-- the view of a pass that did nothing to its table is new
pub new_view : (p : Pass) → IsUntouched (pass_state p) (pass_steps p) → IsNew p.seat.me.0
unfolding pass_state pass_steps view_state
new_view p is = record { whole = is.0; kept = is.1; met = is.2 }

-- ---- the walk along a path

goes_on : (v u w : View) (more more' : List Entry) → Goes v more u → Goes u more' w → Goes v (more ++ more') w
goes_on v u w more more' g g' = grind (arith, append_assoc)

-- each place that was passed by was met with another word
passed_at : (bits w d : ℕ) (es : List Entry) → PassesBy bits w d es → (e k : ℕ) → e < length es → k ≡ d + e → MetOther es w (place bits w k)
passed_at bits w d [] by e k less is = absurd (omega arith)
passed_at bits w d (Met h x ∷ es) by zero k less is = (x, (0, omega arith, let same : k ≡ d = omega arith in cc (by.0, same)), by.1)
passed_at bits w d (Met h x ∷ es) by (suc e) k less is = let t = passed_at bits w (suc d) es by.2 e k (omega arith) (omega arith) in
    (t.0, Contains-append_right (Met h x ∷ []) es (Met (suc (suc (place bits w k))) t.0) t.1, t.2)
passed_at bits w d (Ask h x ∷ es) by e k less is = absurd by
passed_at bits w d (Full x ∷ es) by e k less is = absurd by

by_append : (bits w d k : ℕ) (es more : List Entry) → PassesBy bits w d es → PassesBy bits w k more → k ≡ d + length es
    → PassesBy bits w d (es ++ more)
by_append bits w d k [] more by rest is = let same : d ≡ k = omega arith in rw same rest
by_append bits w d k (Met h x ∷ es) more by rest is = (by.0, by.1, by_append bits w (suc d) k es more by.2 rest (omega arith))
by_append bits w d k (Ask h x ∷ es) more by rest is = absurd by
by_append bits w d k (Full x ∷ es) more by rest is = absurd by

pub walked_none : (p : Pass) (w : ℕ) → Walked p w 0 p
walked_none p w = grind (arith, append-nil, pow_pos)

module _ (p : Pass) (w d : ℕ) (q : Pass) (walked : Walked p w d q) (less : d < 2 ^ p.bits) where
  -- the next place of the path
  pub next_of : IsNext q.seat.me.0 w d (place q.bits w d)
  next_of = let g = walked.goes less in let bits : (q.seat.me.0).terms.bits ≡ p.bits = grind (arith, q.sizes, walked.same) in record {
    within = grind (arith, p.sizes, q.sizes, walked.same);
    there = grind (arith, q.sizes);
    others = λ e less'. let t = passed_at p.bits w 0 walked.before walked.others e e (omega (arith, walked.count)) (omega arith) in
        rw (bits, g.history) (t.0, Contains-append_right (p.seat.me.0).history walked.before _ t.1, t.2);
  }

  -- another word was passed there
  pub walked_more : (q' : Pass) → AreOfOne q q' → (IsNew q.seat.me.0 → ⊥)
      → (other : ℕ) × Passes q.seat.me.0 (d + 1 == 2 ^ q.bits) (place q.bits w d) other w q'.seat.me.0 → Walked p w (d + 1) q'
  walked_more q' same old t =
      let g = walked.goes less in let m = t.1.meets in
      let here : List Entry = Met (suc (suc (place p.bits w d))) t.0 ∷ [] in record {
        same = grind (arith, walked.same);
        within = grind arith;
        before = walked.before ++ here;
        count = grind (arith, length-append, walked.count);
        others = by_append p.bits w 0 d walked.before here walked.others (refl, t.1.differs, tt) (omega (arith, walked.count));
        goes = λ less'. let e : (d + 1 == 2 ^ q.bits) ≡ false = grind (arith, walked.same, eqb-true) in
            goes_on _ _ _ walked.before here g (grind (arith, m.goes, e, walked.same));
        full = λ end. let e : (d + 1 == 2 ^ q.bits) ≡ true = grind (arith, walked.same, eq-eqb) in
            let more = goes_on p.seat.me.0 q.seat.me.0 q'.seat.me.0 walked.before (here ++ Full w ∷ []) g
            (grind (arith, m.goes, e, walked.same)) in
            (grind (arith, more, append_assoc), λ low high known. grind (arith, t.1.over e low high, g));
        fresh = λ new. absurd (old (walked.fresh new).0);
      }

-- after the first place of the path
pub first_passed : (p : Pass) (w : ℕ) (q : Pass) → AreOfOne p q → (IsNew p.seat.me.0 → ⊥)
    → (other : ℕ) × Passes p.seat.me.0 (0 + 1 == 2 ^ p.bits) (place p.bits w 0) other w q.seat.me.0 → Walked p w 1 q
first_passed p w q same old t = walked_more p w 0 p (walked_none p w) (pow_pos p.bits) q same old t

-- what was asked for is asked for still
pub still_asked : (v u : View) (w : ℕ) (more : List Entry) → Goes v more u → IsAsked v w → IsAsked u w
still_asked v u w more goes asked = grind (arith, goes, asked)

-- the word stands at the next place
module _ (p : Pass) (w d : ℕ) (q : Pass) (walked : Walked p w d q) where
  found_next : d < 2 ^ p.bits → (q' : Pass) → AreOfOne q q' → (at : ℕ) → at ≡ place q.bits w d → Stands q.seat.me.0 at w q'.seat.me.0
      → (at < 2 ^ p.bits) × Interned p.seat.me.0 w at q'.seat.me.0
  found_next less q' same at is stands =
      let here : List Entry = Met (suc (suc at)) w ∷ Ask (suc (suc at)) w ∷ [] in
      let goes = goes_on _ _ _ walked.before here (walked.goes less) stands.meets.goes in
      let bits : q.bits ≡ p.bits = walked.same.bits in let terms : (p.seat.me.0).terms.bits ≡ p.bits = p.sizes.0 in
      let count = walked.count in let others = walked.others in
      (rw (is, bits) (place_below p.bits w d p.bits_range.0), grind (arith, goes, stands, walked.goes less, q'.sound))

  -- each place was passed
  pub all_passed : 2 ^ p.bits ≤ d → AllOthers p.seat.me.0 w q.seat.me.0
  all_passed all =
      let whole : d ≡ 2 ^ p.bits = omega (arith, walked.within) in let full = walked.full whole in
      let terms : (p.seat.me.0).terms.bits ≡ p.bits = p.sizes.0 in let count = walked.count in let others = walked.others in
      grind (arith, full, q.sound)

-- what is told of a word that was found further on, of each pass that the walk may have begun with
pub found_further : (o q q' : Pass) (w d : ℕ) → ((p : Pass) → Walked p w 1 o → Walked p w d q) → d < 2 ^ q.bits → AreOfOne q q'
    → (r : Option ℕ) → IfSome r (λ at. (at ≡ place q.bits w d) × Stands q.seat.me.0 at w q'.seat.me.0)
    → IfSome r (λ at. (p : Pass) → Walked p w 1 o → (at < 2 ^ p.bits) × Interned p.seat.me.0 w at q'.seat.me.0)
found_further o q q' w d walks less same None found = tt
found_further o q q' w d walks less same (Some at) found = λ p began.
    let walked = walks p began in let bits : q.bits ≡ p.bits = walked.same.bits in
    found_next p w d q walked (rw (← bits) less) q' same at found.0 found.1

-- and of the pass that it did begin with
module _ (p o q : Pass) (w : ℕ) (began : Walked p w 1 o) where
  pub of_found : (r : Option ℕ) → IfSome r (λ at. (p : Pass) → Walked p w 1 o → (at < 2 ^ p.bits) × Interned p.seat.me.0 w at q.seat.me.0)
      → IfSome r (λ at. (at < 2 ^ p.bits) × Interned p.seat.me.0 w at q.seat.me.0)
  of_found None found = tt
  of_found (Some at) found = found p began

  pub of_none : (r : Option ℕ) → IfNone r ((p : Pass) → Walked p w 1 o → AllOthers p.seat.me.0 w q.seat.me.0)
      → IfNone r (AllOthers p.seat.me.0 w q.seat.me.0)
  of_none None all = all p began
  of_none (Some at) all = tt

module _ (z y : TableId) (v u : View) (same : y ≡ z) (more : List Entry) (goes : Goes v more u) where
  -- what goes on is a later state
  goes_grows : Grows (view_state (name_of z) v) (view_state (name_of y) u)
  unfolding view_state
  goes_grows = grind (arith, refusals_of-grows)

  -- and without refusals only reads
  goes_reads : refused more ≡ 0 → Reads (view_state (name_of z) v) (view_state (name_of y) u)
  unfolding view_state
  goes_reads none = grind (arith, goes_grows, refusals_of-quiet)

-- the parts of a node's word
parts_are : (n : Node) (w : ℕ) → IsPackable n → w ≡ word_of n → (var_of w ≡ n.var) × (lo_of w ≡ n.lo.0) × (hi_of w ≡ n.hi.0)
parts_are n w ok is = grind (arith, var_of-word, lo_of-word, hi_of-word)

-- a pass packs the nodes over its handles
pub packable : (p : Pass) (n : Node) → IsNode (pass_state p) n → IsPackable n
packable p n node = grind (arith, small_known, pass_sound p)

-- no place that was passed was refused
none_refused : (bits w d : ℕ) (es : List Entry) → PassesBy bits w d es → refused es ≡ 0
none_refused bits w d [] by = refl
none_refused bits w d (Met h x ∷ es) by = none_refused bits w (suc d) es by.2
none_refused bits w d (Ask h x ∷ es) by = absurd by
none_refused bits w d (Full x ∷ es) by = absurd by

-- ---- an intern

module _ (p : Pass) (n : Node) (w : ℕ) (node : IsNode (pass_state p) n) (is : w ≡ word_of n) where
  abbrev low : Family
  low = family (pass_state p) n.lo

  abbrev high : Family
  high = family (pass_state p) n.hi

  abbrev whole : Family
  whole = node_family (pass_state p) n

  parts : (var_of w ≡ n.var) × (lo_of w ≡ n.lo.0) × (hi_of w ≡ n.hi.0)
  parts = parts_are n w (packable p n node) is

  children : AreChildren p.seat.me.0 w low high
  unfolding pass_state view_state
  children = grind (arith, some_is, parts)

  pub asked_for : Has (pass_state p).plan whole → IsAsked p.seat.me.0 w
  unfolding pass_state view_state
  asked_for planned = grind (arith, parts, children)

  module _ (q : Pass) (same : q.seat.table_id ≡ p.seat.table_id) where
    -- what is told where the word was found
    pub found_told : (at : ℕ) → Interned p.seat.me.0 w at q.seat.me.0 → let h : Handle = record { 0 = at + 2 } in
        Builds (pass_state p) (pass_state q) (Ok h) whole × ((k : ℕ) → (pass_state p).known k ≡ Some whole → at + 2 ≡ k)
        × IsInterned (pass_state p) (pass_state q) n h
    unfolding pass_state view_state
    found_told at found =
        let known : (pass_state q).known (at + 2) ≡ Some whole = grind (arith, parts, found.handle low high children) in
        let none : refused (found.before ++ Met (suc (suc at)) w ∷ Ask (suc (suc at)) w ∷ []) ≡ 0 =
        grind (arith, refused-append, none_refused) in
        let reads = goes_reads _ _ _ _ same _ found.goes none in
        (grind (arith, reads, known, pass_sound q), (λ k was. grind (arith, reads, known, pass_sound q)), grind arith)

    -- what is told where the table is full
    pub full_told : Has (pass_state p).plan whole → AllOthers p.seat.me.0 w q.seat.me.0
        → Builds (pass_state p) (pass_state q) (Err (record {})) whole × FindsFull (pass_state p) (pass_state q) n
    unfolding pass_state view_state
    full_told planned all =
        let one : refused (all.before ++ Full w ∷ []) ≡ 1 = grind (arith, refused-append, none_refused) in
        let crowded : IsCrowded (pass_state p).capacity (pass_state p).plan whole = grind (arith, parts, all.over low high children) in
        let met : (slot : ℕ) → slot < (pass_state p).capacity → MetOther all.before w slot = λ slot less.
        let c = path_is_whole (p.seat.me.0).terms.bits w slot (grind (arith, p.bits_range, p.sizes)) less in
        subst (MetOther all.before w) c.there
        (passed_at (p.seat.me.0).terms.bits w 0 all.before all.others c.steps c.steps (grind arith) (omega arith)) in
        let grows = goes_grows _ _ _ _ same _ all.goes in (
          grind (arith, grows, one, refusals_of-refused, over _ _ whole crowded planned),
          grind (arith, subst (λ x. (slot : ℕ) → slot < (pass_state p).capacity → MetOther all.before x slot) is met, crowded),
        )

-- in a new table the word is found at the first place of its path, and room is found
module _ (p : Pass) (n : Node) (w : ℕ) (is : w ≡ word_of n) where
  pub first_place : (at : ℕ) → (IsNew p.seat.me.0 → Some at ≡ Some (place p.bits w 0)) → IsUntouched (pass_state p) (pass_steps p)
      → at + 2 ≡ suc (suc (place (bits_of p) (word_of n) 0))
  unfolding bits_of
  first_place at first untouched = let e = first (new_view p untouched) in grind (arith, e)

  pub has_room : (IsNew p.seat.me.0 → None ≡ Some (place p.bits w 0)) → IsUntouched (pass_state p) (pass_steps p) → ⊥
  has_room first untouched = let e = first (new_view p untouched) in cc

-- ---- a look at a node

-- what is told of the node of a handle
pub record IsNodeTold (s t : State) (h : Handle) (r : Option Node) : Type 0 where
  pub reads : Reads s t
  pub constant : IsNone r ↔ (h.0 < 2)
  pub node : IfSome r (IsNode t)
  pub family : IfSome r (λ n. node_family t n ≡ family s h)
  pub met : IfSome r (HasMet s t h)
  pub nothing : IsNone r → t ≡ s

known_of : (p : Pass) (h : Handle) → 2 ≤ h.0 → Knows (pass_state p) h
    → known_by (p.seat.me.0).known (suc (suc (h.0 - 2))) ≡ Some (family (pass_state p) h)
unfolding pass_state view_state
known_of p h more known = grind (arith, some_is)

pub is_known : (p : Pass) (h : Handle) → 2 ≤ h.0 → Knows (pass_state p) h
    → (f : Family) × (known_by (p.seat.me.0).known (suc (suc (h.0 - 2))) ≡ Some f)
is_known p h more known = (family (pass_state p) h, known_of p h more known)

module _ (p q : Pass) (h : Handle) (w : ℕ) (same : q.seat.table_id ≡ p.seat.table_id) (more : 2 ≤ h.0) (known : Knows (pass_state p) h)
    (meets : Meets p.seat.me.0 (Met (suc (suc (h.0 - 2))) w ∷ []) (h.0 - 2) w q.seat.me.0) where
  kids : HasChildren q.seat.me.0 w (family (pass_state p) h)
  kids = meets.teaches.children (family (pass_state p) h) (known_of p h more known)

  module _ (n : Node) (is : IsPacked w n) where
    ends : (var_of w ≡ n.var) × (lo_of w ≡ n.lo.0) × (hi_of w ≡ n.hi.0)
    ends = parts_are n w is.packable (sym is.word_is)

    node_is : IsNode (pass_state q) n
    unfolding pass_state view_state
    node_is = grind (arith, ends, kids)

    family_is : node_family (pass_state q) n ≡ family (pass_state p) h
    unfolding pass_state view_state
    family_is = grind (arith, ends, kids)

    met : HasMet (pass_state p) (pass_state q) h n
    unfolding pass_state view_state
    met = grind (arith, meets.goes, is.word_is)

  pub node_told : (r : Option Node) → IfSome r (IsPacked w) → IfNone r ((n : Node) → ¬ IsPacked w n)
      → IsNodeTold (pass_state p) (pass_state q) h r
  unfolding pass_state view_state
  node_told (Some n) some other = record {
    reads = goes_reads _ _ _ _ same _ meets.goes refl;
    constant = grind arith;
    node = node_is n some;
    family = family_is n some;
    met = met n some;
    nothing = grind arith;
  }
  node_told None some other = let t = meets.teaches in grind (arith, other (node_of w), packed, pass_sound q)

-- ---- cache words

-- the cache words of a pass have indices that fit
pub cache_index_small : (p : Pass) (place : ℕ) → place < 2 ^ cache_bits p.bits → p.slots + place ≤ 16777216
cache_index_small p place inside =
    let range = p.bits_range in let cache : cache_bits p.bits ≤ 23 = omega (arith, range) in
    let least : 2 ^ p.bits ≤ 8388608 = pow_mono range.1 in let most : 2 ^ cache_bits p.bits ≤ 8388608 = pow_mono cache in
    omega (arith, p.counts.1)

module _ (p : Pass) (y : TableId) (m : Sat) (place at w : ℕ) (same : y ≡ p.seat.table_id) (there : at ≡ 2 ^ p.bits + place) where
  -- what is told where a cache word was loaded
  pub looked_told : Looked at p.seat.me w m → Reads (pass_state p) (view_state (name_of y) m.0)
      × ((w ≡ 0) ⊎ IsKept (pass_state p) (view_state (name_of y) m.0) (bits_of p) place w)
      × ((view_state (name_of y) m.0).history ≡ (pass_state p).history) × (IsUntouched (pass_state p) (pass_steps p) → w ≡ 0)
      × (steps_of m.0 ≡ after_load (pass_steps p) place w)
  unfolding pass_state pass_steps bits_of view_state
  looked_told told =
      let here : at ≡ 2 ^ (p.seat.me.0).terms.bits + place = grind (arith, p.sizes) in
      let kept = told.word (name_of p.seat.table_id) place here in (
        goes_reads _ _ _ _ same _ told.goes refl,
        grind (arith, p.sizes, kept),
        told.goes.history ∙ append-nil _,
        (λ is. told.vacant (new_view p is)),
        told.steps place here,
      )

  -- what is told where one was stored
  pub stored_told : Stored at p.seat.me w m
      → (view_state (name_of y) m.0 ≡ pass_state p) × (steps_of m.0 ≡ after_store (pass_steps p) place w)
  unfolding pass_state pass_steps
  stored_told told =
      let here : at ≡ 2 ^ (p.seat.me.0).terms.bits + place = grind (arith, p.sizes) in
      grind (arith, told.steps place here, told.same (name_of p.seat.table_id))
