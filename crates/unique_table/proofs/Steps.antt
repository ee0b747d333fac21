-- The steps of the shared table keep its rule, and so do its opening, splits and joins.
use Rattle.std.proofs.Common.{◌≡◌, ℕ, suc, ◌+◌, ◌^◌, ◌<◌, ◌≤◌, ◌⊎◌, Bool, true, cond, is_some, unwrap_or, eqb, Option, Some, None}
use Rattle.std.proofs.Common.{List, [], ◌∷◌, ◌++◌, slice_index, set, take, replicate, sym, refl, ap, ◌∙◌, subst, inl, inr, arith}
use Rattle.std.specs.List.{All}
use Rattle.std.proofs.lemmas.Bool.{cases_Bool}
use Rattle.std.proofs.lemmas.List.{append-nil, length-replicate, take-replicate, get_or-replicate}
use Rattle.std.proofs.lemmas.List.Elements.{All-nil, All-cons, All-append, Contains-append_left, Contains-append_right}
use mathlib.Core.Logic.{dite}
use native.Mathlib.Decide.{ℕ_discrete}
use prog.Atomic.{either}
use Rattle.atomic_table.specs.Table.{opening, Allows, Splits, Joins}
use Rattle.atomic_table.specs.Seated.{TableId}
use Rattle.lattice.specs.Words.{Family, Covers, sub, cache_bits, IsTrueWord, IsVacantOrTrue, takes_family, answer, needs, IsFilled}
use Rattle.lattice.specs.Words.{KeepsWords, DenotesIn, nothing, unit, IsStored, HoldsWord, FitsHistory}
use Rattle.lattice.specs.declared.entry.Entry.{Entry}
use Rattle.lattice.specs.declared.entry.Entry.TheVariants.{Met, Ask}
use Rattle.lattice.specs.declared.limits.TheConstants.{MAX_VARS, MIN_BITS, MAX_BITS, HANDLE_UNIT}
use Rattle.lattice.proofs.Diagrams.{Has-nil, Has-append_left, sub-nil, fits_append, denotes_one, denotes_handle, true_word_stays}
use Rattle.lattice.proofs.Diagrams.{filling_grows, no_word, none_filled, refusals_of-append, refusals_of-grows}
use Rattle.lattice.proofs.Polynomials.{left_nil}
use Rattle.node_store.specs.Stores.{Adds, Knows, IsResult}
use Rattle.node_store.proofs.StoreLaws.{some_is}
use Rattle.unique_table.specs.declared.view.View.{View}
use Rattle.unique_table.specs.declared.view.About.{About}
use Rattle.unique_table.specs.declared.view.Terms.{Terms}
use Rattle.unique_table.specs.Views.{name_of, terms_of, known_by, steps_of, after_store, view_state}
use Rattle.unique_table.specs.Rule.{Rule, IsTable, IsWhole, IsPair, LiveFits, Fits, FitsWhole, IsSoundView, first_view}
use Rattle.unique_table.specs.Rule.{IsNew, split_view, second_view, merged, joined_view, no_view}
use Rattle.unique_table.specs.Kept.{IsShown, IsKept}
use Rattle.unique_table.specs.Told.{Sat, IsAsked, IsNext, EndsPath, passing, Passes, Stands, Goes, Meets, Keeps, Probed, Exchanged, Checked}
use Rattle.unique_table.specs.Told.{Looked, Stored}
use Rattle.unique_table.specs.Passes.{IsJoined}
use Rattle.unique_table.proofs.Lists.{merged_keeps, merged_has, merged_only, merged_distinct, merged_all, All-Has, All-from_Has}
use Rattle.unique_table.proofs.Lists.{append_cases, pair_cases, pair_there, first_stays}
use Rattle.unique_table.proofs.Fitting.{unit_none, small, live_grows, agrees, sound, Addition, learned, learned_known, learned_fits}
use Rattle.unique_table.proofs.Fitting.{goes_new, met_not_new, learned_sound, learned_goes, meets}
use Rattle.unique_table.proofs.Fitting.{here, here_filled, filled_table, passes, passes_over}
use Rattle.unique_table.proofs.Parts.{opens, splits, joins, node_looks, node_trades, cache_looks, cache_stores}

-- a cache word of a table with these terms is vacant, or true at its place
abbrev IsCacheWord : Terms → List ℕ → ℕ → ℕ → Type 0
IsCacheWord t = IsVacantOrTrue (cache_bits t.bits) t.vars

-- ---- the opening, splits and joins

split_fits : (t : Terms) (ws : List ℕ) (v : View) → Fits t ws v → Fits t ws (split_view v)
split_fits t ws v fits live = let l = fits live in assumption l

second_fits : (t : Terms) (ws : List ℕ) (v : View) → Fits t ws v → Fits t ws (second_view v)
second_fits t ws v fits live = grind arith

joined_fits : (t : Terms) (ws : List ℕ) (v w : View) → w.live ≡ true → Fits t ws v → Fits t ws w → Fits t ws (joined_view v w)
joined_fits t ws v w live' fits fits' live =
    let l = fits live in let r = fits' live' in let stays = first_stays v.known w.known in
    let subs : (h : ℕ) (f : Family) → known_by (v.known ++ w.known) h ≡ Some f → Covers (merged v.held w.held) (sub t.vars f) =
    λ h f is g i. grind (arith, append_cases v.known w.known h f is, l.subs h f, r.subs h f, merged_keeps, merged_has) in
    assumption (
      l,
      stays 0 [] l.empty,
      stays 1 (0 ∷ []) l.unit,
      subs,
      All-append (IsPair t.vars ws) v.known w.known l.known r.known,
      merged_all (IsStored t.vars ws) v.held w.held l.held r.held,
      merged_distinct v.held w.held l.apart,
      fits_append (2 ^ t.bits) ws v.history w.history l.history r.history,
    )

pub divides : (about : About) (id : ℕ) (v : View) → Splits (Rule about) id v (split_view v) (second_view v)
divides about id v =
    let front = λ (ws : List ℕ). take (2 ^ about.bits) ws in
    splits (IsWhole about) (FitsWhole about) IsNew id v (split_view v) (second_view v)
    (λ ws _ fits. (split_fits (terms_of about) (front ws) v fits, second_fits (terms_of about) (front ws) v fits))
    (λ new. omega (arith, new.whole)) (λ new. omega (arith, new.whole))

pub unites : (about : About) (id : ℕ) (v : View) (other : ℕ) (w : View) → w.live ≡ true
    → Joins (Rule about) id v other w (joined_view v w) no_view
unites about id v other w live = joins (IsWhole about) (FitsWhole about) IsNew id v other w (joined_view v w) no_view
    (λ ws _ fits fits'. (joined_fits (terms_of about) (take (2 ^ about.bits) ws) v w live fits fits', λ e. cc))
    (λ new. record { whole = new.whole; kept = new.kept; met = left_nil v.history w.history new.met }) (λ new. omega (arith, new.whole))

first_table : (t : Terms) (n : ℕ) → n ≡ 2 ^ t.bits → 1 ≤ t.vars → t.vars ≤ MAX_VARS → (MIN_BITS ≤ t.bits) × (t.bits ≤ MAX_BITS)
    → IsTable t (replicate n 0)
first_table t n is low high small = grind (arith, length-replicate, none_filled)

first_pairs : (vars : ℕ) (ws : List ℕ) → All (IsPair vars ws) ((0, []) ∷ (1, 0 ∷ []) ∷ [])
first_pairs vars ws = grind (arith, All-cons, All-nil, nothing, unit)

first_fits : (about : About) (n : ℕ) → LiveFits (terms_of about) (replicate n 0) (first_view about)
first_fits about n = grind (arith, All-nil, pair_cases, Has-nil, sub-nil, unit_none, first_pairs about.vars (replicate n 0))

-- a table of vacant words, with its first seat
pub starts : (about : About) → 1 ≤ about.vars → about.vars ≤ MAX_VARS → (MIN_BITS ≤ about.bits) × (about.bits ≤ MAX_BITS)
    → Rule about (opening (replicate (2 ^ about.bits + 2 ^ cache_bits about.bits) 0) [] (first_view about))
starts about low high small =
    let n : ℕ = 2 ^ about.bits in let m : ℕ = 2 ^ cache_bits about.bits in let t : Terms = terms_of about in
    let front : take {A = ℕ} n (replicate (n + m) 0) ≡ replicate n 0 = take-replicate n (n + m) 0 (omega arith) in
    opens (IsWhole about) (FitsWhole about) IsNew (replicate (n + m) 0) (first_view about)
    (record {
      size = length-replicate (n + m) 0;
      nodes = rw front (first_table t n refl low high small);
      cache = λ p less. inl (let l : p < m = less in get_or-replicate (n + m) (n + p) 0 0 (omega arith));
    })
    (λ _. rw front (first_fits about n)) (no_word (n + m))

-- the first view is a store
pub first_sound : (about : About) → 1 ≤ about.vars → about.vars ≤ MAX_VARS → (MIN_BITS ≤ about.bits) × (about.bits ≤ MAX_BITS)
    → (v : View) → v ≡ first_view about → IsSoundView v
first_sound about low high small v is = subst IsSoundView (sym is) (sound (first_view about) (replicate (2 ^ about.bits) 0)
    (first_table (terms_of about) (2 ^ about.bits) refl low high small) (first_fits about (2 ^ about.bits)) refl)

-- a sound view is sound after a split
pub split_sound : (v u : View) → u ≡ split_view v → IsSoundView v → IsSoundView u
unfolding view_state
split_sound v u e is = rw e (record { live = is.live; store = is.store; bits_high = is.bits_high; small = is.small; pairs = is.pairs })

-- a second view of a sound one is sound
pub second_sound : (v u : View) → u ≡ second_view v → IsSoundView v → IsSoundView u
unfolding view_state
second_sound v u e is = rw e (record
    { live = is.live; store = λ name. let s = is.store name in grind arith; bits_high = is.bits_high; small = is.small; pairs = is.pairs })

-- the name of a table tells which it is
pub table_same : (z z' : TableId) → Some (name_of z) ≡ Some (name_of z') → z ≡ z'
table_same z z' e = grind arith

-- what a pass is after a join
pub joined_is : (z y z' : TableId) (v w u : View) → z' ≡ z → u ≡ joined_view v w → IsSoundView u
    → IsJoined (view_state (name_of z) v) (view_state (name_of y) w) (view_state (name_of z') u)
unfolding view_state
joined_is z y z' v w u e e' sound =
    let own : IsSoundView (joined_view v w) = rw e' at sound in
    let first : (h : ℕ) (f : Family) → known_by v.known h ≡ Some f → known_by (v.known ++ w.known) h ≡ Some f =
    λ h f is. own.pairs h f (Contains-append_left v.known w.known (h, f) (pair_there v.known h f is)) in
    let second : (h : ℕ) (f : Family) → known_by w.known h ≡ Some f → known_by (v.known ++ w.known) h ≡ Some f =
    λ h f is. own.pairs h f (Contains-append_right v.known w.known (h, f) (pair_there w.known h f is)) in
    let adds : Adds v.history (v.history ++ w.history) = (w.history, refl) in
    rw (e', e) (assumption (
      first,
      second,
      append_cases v.known w.known,
      merged_keeps v.held w.held,
      merged_has v.held w.held,
      merged_only v.held w.held,
      refusals_of-grows v.history w.history,
      refusals_of-append v.history w.history,
      adds,
    ))

-- ---- kept results

module _ (v : View) (ws : List ℕ) (table : IsTable v.terms ws) (fits : LiveFits v.terms ws v) where
  abbrev vars : ℕ
  vars = v.terms.vars

  fits_word : {h : ℕ} {f : Family} → DenotesIn vars ws h f → suc h < HANDLE_UNIT
  fits_word d = small v.terms.bits vars ws table.canonical table.bits_high d

  -- a known handle denotes its family
  known_family : (h : ℕ) → is_some (known_by v.known h) ≡ true → DenotesIn vars ws h (unwrap_or (known_by v.known h) [])
  known_family h known = agrees v ws table fits h _ (some_is (known_by v.known h) known)

  module _ (place word : ℕ) (is : IsTrueWord (cache_bits v.terms.bits) vars ws place word) where
    abbrev kept : Addition v ws
    kept = record {
      extra = (is.result, answer is.op vars is.f is.g is.b) ∷ [];
      pairs = All-cons (IsPair vars ws) (is.result, answer is.op vars is.f is.g is.b) [] is.denotes (All-nil (IsPair vars ws));
      more = needs is.op vars is.f is.g is.b;
      stored = is.stored;
      entries = [];
      history = rw append-nil fits.history;
      last = Some (place, word);
      loads = suc v.loads;
    }

    abbrev u : View
    u = learned v ws table fits kept

    known_still : (h : ℕ) → is_some (known_by v.known h) ≡ true → known_by u.known h ≡ known_by v.known h
    known_still h known = let e = some_is (known_by v.known h) known in first_stays v.known kept.extra h _ e ∙ sym e

    -- where the handles of the key are known, so is the result
    looked_result : (name : List ℕ) → Knows (view_state name v) (record { 0 = is.a })
        → (takes_family is.op ≡ true → is_some ((view_state name v).known is.b) ≡ true)
        → IsResult (view_state name u) is.op (record { 0 = is.a }) is.b (record { 0 = is.result })
    unfolding view_state
    looked_result name first second =
        let a = known_still is.a first in let b = λ (t : takes_family is.op ≡ true). known_still is.b (second t) in
        let f : is.f ≡ unwrap_or (known_by u.known is.a) [] = denotes_one vars ws is.first (rw a (known_family is.a first)) in
        let g : is.g ≡ cond (takes_family is.op) (unwrap_or (known_by u.known is.b) []) [] = elim (cases_Bool (takes_family is.op)) [
          | inl t ↦ rw (t, b t) (denotes_one vars ws (is.second_handle t) (known_family is.b (second t)))
          | inr t ↦ rw t (is.second_other t)
        ] in
        let r = learned_known v ws table fits kept is.result (answer is.op vars is.f is.g is.b) (0, omega arith, refl) in
        let held : Covers u.held (needs is.op vars is.f is.g is.b) = λ x i. merged_has v.held _ x (Has-append_left _ _ x i) in
        grind (arith, a, b, f, g, r, held, is.allowed, is.second_none, first, second)

    looked_kept : (name : List ℕ) → IsKept (view_state name v) (view_state name u) v.terms.bits place word
    looked_kept name = record {
      op = is.op;
      a = record { 0 = is.a };
      b = is.b;
      r = record { 0 = is.result };
      a_fits = grind (arith, fits_word is.first);
      b_fits = grind (arith, cases_Bool);
      r_fits = fits_word is.denotes;
      word = record { there = is.there; word = is.word };
      result = looked_result name;
    }

  -- a kept result is true, as the view shows it
  shown_true : (name : List ℕ) (place w : ℕ) → IsShown (view_state name v) v.terms.bits place w
      → IsTrueWord (cache_bits v.terms.bits) vars ws place w
  unfolding view_state
  shown_true name place w shown =
      let is = shown.result in let f : Family = unwrap_or (known_by v.known shown.a.0) [] in
      let g : Family = cond (takes_family shown.op) (unwrap_or (known_by v.known shown.b) []) [] in
      let da = known_family shown.a.0 (is.operands).first in
      let db : takes_family shown.op ≡ true → DenotesIn vars ws shown.b (unwrap_or (known_by v.known shown.b) []) =
      λ t. known_family shown.b ((is.operands).second_handle t) in
      let b_word : takes_family shown.op ≡ true → suc shown.b < HANDLE_UNIT = λ t. fits_word (db t) in
      let dr = agrees v ws table fits shown.r.0 (answer shown.op vars f g shown.b) is.denotes in
      record {
        op = shown.op;
        a = shown.a.0;
        b = shown.b;
        result = shown.r.0;
        f = f;
        g = g;
        a_fits = grind (arith, fits_word da);
        b_fits = grind (arith, cases_Bool, b_word, is.allowed, is.operands, table.vars_high);
        result_fits = fits_word dr;
        there = (shown.word).there;
        word = (shown.word).word;
        first = da;
        second_handle = λ t. rw t (db t);
        second_other = λ t. rw t refl;
        second_none = (is.operands).second_none;
        allowed = is.allowed;
        denotes = dr;
        stored = All-from_Has (IsStored vars ws) (needs shown.op vars f g shown.b)
            (λ x i. All-Has (IsStored vars ws) v.held x fits.held (is.held x i));
      }

-- ---- what a step has at hand

none_is : (o : Option Family) → ((f : Family) → o ≡ Some f → ⊥) → o ≡ None
none_is (Some f) h = absurd (h f refl)
none_is None h = refl

module _ (about : About) (me : Sat) (live : me.0.live ≡ true) where
  abbrev t : Terms
  t = terms_of about

  abbrev v : View
  v = me.0

  abbrev nodes : ℕ
  nodes = 2 ^ about.bits

  abbrev words : ℕ
  words = 2 ^ cache_bits about.bits

  -- a view that fits the table, and what a step that leaves it tells
  abbrev Left : List ℕ → (Sat → Type 0) → Type 0
  Left ws Told = (u : View) × Fits t ws u × (IsNew u → IsNew v) × Told (u, me.1)

  module _ (ws : List ℕ) (table : IsTable t ws) (fits : Fits t ws v) where
    own_table : IsTable v.terms ws
    own_table = rw (fits live).of table

    own_fits : LiveFits v.terms ws v
    own_fits = subst (λ (k : Terms). LiveFits k ws v) (sym (fits live).of) (fits live)

    -- the view that nothing was added to
    unchanged : Keeps me me
    unchanged = record { bare = refl; sound = sound v ws own_table own_fits live; terms = refl; steps = refl }

    module _ (at : ℕ) (filled : IsFilled ws at) where
      -- a filled slot is met
      met : (more : List Entry) → FitsHistory (2 ^ v.terms.bits) ws (v.history ++ more)
          → Left ws (λ m. Keeps me m × Meets v more at (slice_index ws at) m.0)
      met more history = let m = meets v ws own_table own_fits live at filled more history in (
        m.0,
        (λ _. subst (λ (k : Terms). LiveFits k ws m.0) (fits live).of m.1),
        (λ new. goes_new v m.0 more m.2.goes m.3 new),
        (record { bare = refl; sound = m.2.sound; terms = m.2.goes.terms; steps = m.3 }, m.2),
      )

      stands : (w : ℕ) → slice_index ws at ≡ w → Left ws (λ m. Keeps me m × Stands v at w m.0)
      stands w is =
          let h : HoldsWord ws (suc (suc at)) w = record { at = at; is = refl; found = is; some = λ e. filled (is ∙ e) } in
          let more : List Entry = Met (suc (suc at)) w ∷ Ask (suc (suc at)) w ∷ [] in
          grind (arith, met more (fits_append (2 ^ v.terms.bits) ws v.history more own_fits.history (h, (h, tt))))

      -- with the word asked for, or another one
      found : (w : ℕ) (last : Bool) → EndsPath v w at last → let x = slice_index ws at in
          Left ws (λ m. Keeps me m × (((x ≡ w) × Stands v at w m.0) ⊎ Passes v last at x w m.0))
      found w last end = dite (ℕ_discrete (slice_index ws at) w) (λ is. let l = stands w is in (l.0, l.1, l.2, (l.3.0, inl (is, l.3.1))))
          (λ ne.
          let l = met (passing last (suc (suc at)) (slice_index ws at) w) (passes v ws own_table own_fits w at filled ne last end) in (
            l.0,
            l.1,
            l.2,
            (
              l.3.0,
              inr (record
                  { some = filled; differs = ne; meets = l.3.1; over = passes_over v ws own_table own_fits w at filled ne last end }),
            ),
          ))

  -- ---- steps on node words

  -- a place of the view's table is one of the table
  inside : (at : ℕ) → at < 2 ^ v.terms.bits → (ws : List ℕ) → Fits t ws v → at < 2 ^ about.bits
  inside at less ws fits = subst (λ (k : Terms). at < 2 ^ k.bits) (fits live).of less

  -- a load keeps the rule
  pub probes : (slots id at asked : ℕ) (last : Bool) → at < 2 ^ v.terms.bits → EndsPath v asked at last
      → Allows (Rule about) slots id me at (λ n. n) (Probed asked last at me)
  probes slots id at asked last less end = node_looks nodes words (IsTable t) (Fits t) IsNew (IsCacheWord t) slots id me at
      (Probed asked last at me) (inside at less) (λ ws table fits first. dite (ℕ_discrete (slice_index ws at) 0)
      (λ vacant. (
        v,
        fits,
        (λ new. new),
        (
          unchanged ws table fits,
          first,
          inl (record {
            none = vacant;
            same = refl;
            unknown = none_is (known_by v.known (suc (suc at))) (λ f k. denotes_handle v.terms.vars ws
                (agrees v ws (own_table ws table fits) (own_fits ws table fits) (suc (suc at)) f k) vacant);
          }),
        ),
      ))
      (λ filled. let l = found ws table fits at filled asked last end in
      (l.0, l.1, l.2, (l.3.0, first, inr (elim l.3.1 [ inl s ↦ inr s | inr p ↦ inl p ])))))

  -- a cache word stays true
  stays_true : (ws later : List ℕ) → KeepsWords ws later → (p y : ℕ) → IsCacheWord t ws p y → IsCacheWord t later p y
  stays_true ws later still p y (inl vacant) = inl vacant
  stays_true ws later still p y (inr is) = inr (true_word_stays (cache_bits t.bits) t.vars p y ws later still is)

  -- an exchange for a vacant word keeps the rule
  pub exchanges : (slots id at w d : ℕ) (last : Bool) → at < 2 ^ v.terms.bits → IsAsked v w → IsNext v w d at → EndsPath v w at last
      → Allows (Rule about) slots id me at (λ n. either (eqb n 0) w n) (Exchanged last at w me)
  exchanges slots id at w d last less asked next end = node_trades nodes words (IsTable t) (Fits t) IsNew (IsCacheWord t) slots id me at
      (Exchanged last at w me) (inside at less) 0 w
      (λ ws table fits vacant.
      let own = own_fits ws table fits in let mine = own_table ws table fits in
      let still = filling_grows ws at w vacant in
      let whole : IsTable t (set ws at w) = subst (λ (k : Terms). IsTable k (set ws at w)) (fits live).of
      (filled_table v ws mine own w asked d at next less vacant) in
      let stay : (u : View) → Fits t ws u → Fits t (set ws at w) u = λ u f live'. live_grows t ws (set ws at w) u still (f live') in
      let l = stands (set ws at w) whole (stay v fits) at (here_filled v ws mine own w asked d at next less vacant) w
      (here v ws mine own w asked d at next less vacant) in (
        (
          l.0,
          whole,
          stay,
          l.1,
          (λ new. absurd (met_not_new v l.0 _ _ (l.3.1).meets.goes new)),
          (l.3.0, (λ _. vacant), inl (inl vacant, l.3.1)),
        ),
        stays_true ws (set ws at w) still,
      ))
      (λ ws table fits first filled. let l = found ws table fits at filled w last end in
      (l.0, l.1, l.2, (l.3.0, first, elim l.3.1 [ inl s ↦ inl (inr s.0, s.1) | inr p ↦ inr p ])))

  -- a load that changes nothing keeps the rule
  pub checks : (slots id at : ℕ) → at < 2 ^ v.terms.bits → Allows (Rule about) slots id me at (λ n. n) (λ _ after. Checked me after)
  checks slots id at less = node_looks nodes words (IsTable t) (Fits t) IsNew (IsCacheWord t) slots id me at
      (λ _ after. Checked me after) (inside at less) (λ ws table fits _. (v, fits, (λ new. new), (unchanged ws table fits, refl)))

  -- ---- steps on cache words

  module _ (p at : ℕ) (less : p < 2 ^ cache_bits v.terms.bits) (is : at ≡ 2 ^ v.terms.bits + p) where
    inside_cache : (ws : List ℕ) → Fits t ws v → (p < words) × (at ≡ nodes + p)
    inside_cache ws fits = subst (λ (k : Terms). (p < 2 ^ cache_bits k.bits) × (at ≡ 2 ^ k.bits + p)) (fits live).of (less, is)

    -- it is the only place with this word of the table
    same_place : (place : ℕ) → at ≡ 2 ^ v.terms.bits + place → p ≡ place
    same_place place e = grind arith

    -- what a load leaves where something is learned from the word
    looked : (ws : List ℕ) (table : IsTable t ws) (fits : Fits t ws v) (x : ℕ) (add : Addition v ws) → add.entries ≡ []
        → add.last ≡ Some (p, x) → add.loads ≡ suc v.loads → (IsNew v → x ≡ 0)
        → ((name : List ℕ) → let u = learned v ws (own_table ws table fits) (own_fits ws table fits) add in
        (x ≡ 0) ⊎ IsKept (view_state name v) (view_state name u) v.terms.bits p x) → Left ws (Looked at me x)
    looked ws table fits x add none last loads first word =
        let mine = own_table ws table fits in
        let own = own_fits ws table fits in (
          learned v ws mine own add,
          (λ _. subst (λ (k : Terms). LiveFits k ws (learned v ws mine own add)) (fits live).of (learned_fits v ws mine own add)),
          (λ new. record { whole = new.whole; kept = new.kept; met = left_nil v.history add.entries new.met }),
          record {
            bare = refl;
            sound = learned_sound v ws mine own add live;
            terms = refl;
            goes = subst (λ es. Goes v es (learned v ws mine own add)) none (learned_goes v ws mine own add);
            steps = λ place e k. record {
              last = (last ∙ ap (λ (q : ℕ). Some (q, x)) (same_place place e)) k;
              put = v.put;
              loads = loads k;
              stores = v.stores;
              splits = v.splits;
            };
            vacant = first;
            word = λ name place e. rw (same_place place e) at (word name);
          },
        )

    -- a load keeps the rule
    pub loads : (slots id : ℕ) → Allows (Rule about) slots id me at (λ n. n) (Looked at me)
    loads slots id = cache_looks nodes words (IsTable t) (Fits t) IsNew (IsCacheWord t) slots id me at p inside_cache (Looked at me)
        (λ ws table fits x told first. elim told [
          | inl none ↦ looked ws table fits x (record {
            extra = [];
            pairs = All-nil (IsPair v.terms.vars ws);
            more = [];
            stored = All-nil (IsStored v.terms.vars ws);
            entries = [];
            history = rw append-nil (own_fits ws table fits).history;
            last = Some (p, x);
            loads = suc v.loads;
          }) refl refl refl first (λ name. inl none)
          | inr word ↦ let true_word = subst (λ (k : Terms). IsTrueWord (cache_bits k.bits) k.vars ws p x) (sym (fits live).of) word in
              looked ws table fits x (kept v ws (own_table ws table fits) (own_fits ws table fits) p x true_word) refl refl refl first
              (λ name. inr (looked_kept v ws (own_table ws table fits) (own_fits ws table fits) p x true_word name))
        ])

    -- a store of a word changes nothing that a store shows
    put_same : (o : Option (ℕ × ℕ)) (n : ℕ) (name : List ℕ) → view_state name (record v { put = o; stores = n }) ≡ view_state name v
    unfolding view_state
    put_same o n name = refl

    -- and keeps the rule
    pub stores : (slots id x : ℕ) (name : List ℕ) → IsShown (view_state name v) v.terms.bits p x
        → Allows (Rule about) slots id me at (λ _. x) (λ _. Stored at me x)
    stores slots id x name shown = cache_stores nodes words (IsTable t) (Fits t) IsNew (IsCacheWord t) slots id me at p inside_cache x
        (Stored at me x) (λ ws table fits.
        let mine = own_table ws table fits in let own = own_fits ws table fits in
        let u : View = record v { put = Some (p, x); stores = suc v.stores } in
        let fit : LiveFits v.terms ws u = assumption own in (
          inr (subst (λ (k : Terms). IsTrueWord (cache_bits k.bits) k.vars ws p x) (fits live).of
              (shown_true v ws mine own name p x shown)),
          (
            u,
            (λ _. subst (λ (k : Terms). LiveFits k ws u) (fits live).of fit),
            (λ new. omega (arith, new.kept)),
            record {
              bare = refl;
              sound = sound u ws mine fit live;
              terms = refl;
              same = put_same (Some (p, x)) (suc v.stores);
              steps = λ place e. ap (λ (q : ℕ). after_store (steps_of v) q x) (same_place place e);
            },
          ),
        ))
