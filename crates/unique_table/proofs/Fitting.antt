-- What fits a table is a store, and goes on where a slot is met, filled or passed, and where a cache word is looked at.
use Rattle.std.proofs.Common.{◌≡◌, ◌≢◌, ℕ, zero, suc, ◌+◌, ◌-◌, ◌^◌, ◌<◌, ◌≤◌, Bool, true, false, not, Option, Some, List, [], ◌∷◌, ◌++◌}
use Rattle.std.proofs.Common.{length, slice_index, set, sym, refl, ap, ◌∙◌, ◌⊎◌, subst, inl, inr, arith, pow_mono, get_or-set_same}
use Rattle.std.proofs.Common.{get_or-set_other}
use Rattle.std.specs.List.{All, Contains}
use Rattle.std.proofs.lemmas.Bool.{and_from}
use Rattle.std.proofs.lemmas.List.Elements.{All-nil, All-cons, All-append, All-weaker}
use mathlib.Core.Logic.{dite}
use native.Mathlib.Decide.{ℕ_discrete}
use Rattle.lattice.specs.Words.{Family, IsFamily, has, includes, Has, Covers, is_distinct, is_node_list, join, sub, var_of, lo_of, hi_of}
use Rattle.lattice.specs.Words.{place, IsFilled, IsHandle, var_at, IsNodeWord, IsCanonical, MayFill, KeepsWords, DenotesIn, nothing}
use Rattle.lattice.specs.Words.{unit, slot, IsStored, AgreesWith, FitsFrom, FitsHistory}
use Rattle.lattice.specs.declared.entry.Entry.{Entry}
use Rattle.lattice.specs.declared.entry.Entry.TheVariants.{Met, Ask, Full}
use Rattle.lattice.specs.declared.limits.TheConstants.{HANDLE_UNIT, MAX_BITS}
use Rattle.lattice.proofs.Polynomials.{IsFamily_wider, contains_cases, has_head, has_tail, left_nil, some_more}
use Rattle.lattice.proofs.Diagrams.{Has-nil, Has-cases, none_of, covered_length, IsFamily-unit, Has-append_right, sub-zero, sub-nil}
use Rattle.lattice.proofs.Diagrams.{sub-narrow, sub-join_cases, level-below, fills, filling_grows, filled_within, node_some, legal}
use Rattle.lattice.proofs.Diagrams.{fits_append, fits_grows, met_slot, denotes_grows, denotes_handle, denotes_one, known_one, one_handle}
use Rattle.lattice.proofs.Diagrams.{high_after, low_after, slot_level, held_fits, some_members, variables_from, refusals_of-below}
use Rattle.lattice.proofs.Diagrams.{join_parts, path_is_whole, same_word, stored_grows}
use Rattle.unique_table.specs.declared.view.View.{View}
use Rattle.unique_table.specs.declared.view.Terms.{Terms}
use Rattle.unique_table.specs.Views.{Steps, known_by, steps_of, view_state}
use Rattle.unique_table.specs.Rule.{IsTable, IsPair, LiveFits, IsNew, IsSoundView, merged}
use Rattle.unique_table.specs.Told.{Goes, Meets, MetOther, IsAsked, IsNext, EndsPath, passing, HasNoRoom, IsCrowded}
use Rattle.unique_table.proofs.Lists.{merged_keeps, merged_has, merged_distinct, merged_all, All-Has, append_cases, first_stays}
use Rattle.unique_table.proofs.Lists.{agrees_of, pairs_known, second_stays, subs_of, covers_subs, all_subs}

-- ---- handles

pub handle_below : (n : ℕ) (ws : List ℕ) → length ws ≡ n → (h : ℕ) → IsHandle ws h → h < n + 2
handle_below n ws size zero is = omega arith
handle_below n ws size (suc zero) is = omega arith
handle_below n ws size (suc (suc s)) is = let inside : s < length ws = filled_within ws s is in omega arith

var_some : (bits vars : ℕ) (ws : List ℕ) → IsCanonical bits vars ws → (h : ℕ) → IsHandle ws h → 1 ≤ var_at vars ws h
var_some bits vars ws can zero is = omega arith
var_some bits vars ws can (suc zero) is = omega arith
var_some bits vars ws can (suc (suc s)) is = (can.nodes s is).first

-- the family of 0 alone has no subfamilies that are stored
pub unit_none : (n : ℕ) (g : Family) → Has (sub n (0 ∷ [])) g → ⊥
unit_none n g h = grind (arith, Has-nil, sub-narrow 0 n (0 ∷ []) (IsFamily-unit 0), sub-zero)

module _ (bits vars : ℕ) (ws : List ℕ) (can : IsCanonical bits vars ws) where
  -- the subfamilies of what a handle denotes are stored
  subs_stored : {h : ℕ} {f : Family} → DenotesIn vars ws h f → (g : Family) → Has (sub vars f) g → IsStored vars ws g
  subs_stored nothing g i = absurd (Has-nil g (subst (λ fs. Has fs g) (sub-nil vars) i))
  subs_stored unit g i = absurd (unit_none vars g i)
  subs_stored (slot s low high f filled l h is) g i =
      let node = can.nodes s filled in let first = node.first in
      let last = node.last in let own : DenotesIn vars ws (suc (suc s)) f = slot s low high f filled l h is in
      elim (sub-join_cases (vars - var_of (slice_index ws s)) vars low high (low_after bits vars ws can s low high filled l h)
      (high_after bits vars ws can s low high filled l h) (omega arith) (some_members bits vars ws can h node.full) g
      (subst (λ x. Has (sub vars x) g) is i)) [
        | inl e ↦ record { at = s; filled = filled; denotes = subst (DenotesIn vars ws (suc (suc s))) (is ∙ e) own }
        | inr t ↦ elim t [
          | inl a ↦ subs_stored l g a
          | inr b ↦ subs_stored h g b
        ]
      ]

  -- a handle of the table has room in a word, and so has the number after it
  pub small : bits ≤ MAX_BITS → {h : ℕ} {f : Family} → DenotesIn vars ws h f → suc h < HANDLE_UNIT
  small le {h} d = grind (arith, pow_mono, handle_below, denotes_handle)

  -- a handle whose family has variables behind var alone has a later variable
  later_variable : (var : ℕ) → 1 ≤ var → var ≤ vars → {h : ℕ} {f : Family} → DenotesIn vars ws h f → IsFamily (vars - var) f
      → var < var_at vars ws h
  later_variable var first last nothing after = omega arith
  later_variable var first last unit after = omega arith
  later_variable var first last (slot s low high f filled l h is) after =
      grind (arith, slot_level bits vars ws can s low high filled l h, level-below (vars - var) vars f after, can.nodes s filled)

-- ---- histories

-- a slot that was met with another word has another word
met_other : (size : ℕ) (ws : List ℕ) (es : List Entry) → FitsHistory size ws es → (w s : ℕ) → MetOther es w s
    → IsFilled ws s × (slice_index ws s ≢ w)
met_other size ws es fits w s is = let e : suc (suc s) ≡ s + 2 = omega arith in
    grind (arith, met_slot size ws es s is.0 fits (subst (λ k. Contains es (Met k is.0)) e is.1))

-- more entries fit behind a history where they fit behind all lists of handles that have those that were met
fits_then : (size : ℕ) (ws met : List ℕ) (es more : List Entry) → FitsFrom size ws met es
    → ((met' : List ℕ) → ((h : ℕ) → has met h ≡ true → has met' h ≡ true)
    → ((h w : ℕ) → Contains es (Met h w) → has met' h ≡ true) → FitsFrom size ws met' more) → FitsFrom size ws met (es ++ more)
fits_then size ws met [] more fits then = then met (λ h i. i) (λ h w c. let less = c.1 in absurd (omega arith))
fits_then size ws met (Met k x ∷ es) more fits then = (
  fits.0,
  fits_then size ws (k ∷ met) es more fits.1 (λ met' keeps new.
      then met' (λ h i. keeps h (has_tail k met h i))
      (λ h w c. grind (arith, contains_cases (Met h w) (Met k x) es c, keeps k (has_head k met), new h w))),
)
fits_then size ws met (Ask k x ∷ es) more fits then = (
  fits.0,
  fits_then size ws met es more fits.1 (λ met' keeps new.
      then met' keeps (λ h w c. grind (arith, contains_cases (Met h w) (Ask k x) es c, new h w))),
)
fits_then size ws met (Full x ∷ es) more fits then = (
  fits.0,
  fits_then size ws met es more fits.1 (λ met' keeps new.
      then met' keeps (λ h w c. grind (arith, contains_cases (Met h w) (Full x) es c, new h w))),
)

-- ---- full tables

module _ (t : Terms) (ws : List ℕ) (table : IsTable t ws) where
  -- the families of the first n slots
  record Listed (n : ℕ) : Type 0 where
    pub list : List Family
    pub len : length list ≡ n
    pub distinct : is_distinct list ≡ true
    pub planned : Covers t.plan list
    pub from : (f : Family) → Has list f → (s : ℕ) × (s < n) × IsFilled ws s × DenotesIn t.vars ws (suc (suc s)) f

  listed : (n : ℕ) → ((s : ℕ) → s < n → IsFilled ws s) → Listed n
  listed zero filled = grind (arith, Has-nil)
  listed (suc n) filled =
      let rest = listed n (λ s less. filled s (omega arith)) in let own = table.planned n (filled n (omega arith)) in
      let f : Family = own.0 in
      let none : includes rest.list f ≡ false = none_of rest.list f (λ h. let at = rest.from f h in
      let same : suc (suc at.0) ≡ suc (suc n) = one_handle t.bits t.vars ws table.canonical at.3 own.1 refl in
      absurd (omega (arith, at.1))) in
      record {
        list = f ∷ rest.list;
        len = ap suc rest.len;
        distinct = and_from (not (includes rest.list f)) (is_distinct rest.list) (ap not none) rest.distinct;
        planned = λ g h. grind (arith, Has-cases f rest.list g h, own.2, rest.planned g);
        from = λ g h. elim (Has-cases f rest.list g h) [
          | inl e ↦ (n, omega arith, filled n (omega arith), subst (λ x. DenotesIn t.vars ws (suc (suc n)) x) e own.1)
          | inr i ↦ let at = rest.from g i in let less = at.1 in (at.0, omega arith, at.2, at.3)
        ];
      }

  module _ (w : ℕ) (low high : Family) (l : DenotesIn t.vars ws (lo_of w) low) (h : DenotesIn t.vars ws (hi_of w) high)
      (first : 1 ≤ var_of w) (last : var_of w ≤ t.vars) (full : hi_of w ≢ 0)
      (lf : IsFamily (t.vars - var_of w) low) (hf : IsFamily (t.vars - var_of w) high) where
    -- a slot that denotes the family of a node has the node's word
    slot_of : (s : ℕ) (f : Family) → DenotesIn t.vars ws (suc (suc s)) f → f ≡ join (t.vars - var_of w) low high → slice_index ws s ≡ w
    slot_of s f (slot _ low' high' _ filled l' h' is) e =
        let node = table.canonical.nodes s filled in let can = table.canonical in
        let lf' = low_after t.bits t.vars ws can s low' high' filled l' h' in
        let hf' = high_after t.bits t.vars ws can s low' high' filled l' h' in
        let some = some_members t.bits t.vars ws can h full in
        let some' = some_members t.bits t.vars ws can h' node.full in
        let parts = join_parts t.vars (t.vars - var_of (slice_index ws s)) (t.vars - var_of w) low' high' low high lf' hf' lf hf some' some
        (omega (arith, node.first, node.last)) (omega arith) (sym is ∙ e) in
        same_word (slice_index ws s) w (omega (arith, node.last, last, parts.0)) (one_handle t.bits t.vars ws can l' l parts.1)
        (one_handle t.bits t.vars ws can h' h parts.2)

    crowded : ((s : ℕ) → s < 2 ^ t.bits → IsFilled ws s × (slice_index ws s ≢ w))
        → IsCrowded (2 ^ t.bits) t.plan (join (t.vars - var_of w) low high)
    crowded others = let all = listed (2 ^ t.bits) (λ s less. (others s less).0) in record {
      stored = all.list;
      all = all.len;
      apart = all.distinct;
      planned = all.planned;
      other = λ i. let at = all.from (join (t.vars - var_of w) low high) i in
          (others at.0 at.1).1 (slot_of at.0 (join (t.vars - var_of w) low high) at.3 refl);
    }

-- then the plan has more families than there are slots
pub over : (slots : ℕ) (plan : List Family) (f : Family) → IsCrowded slots plan f → Has plan f → slots < length plan
over slots plan f is planned =
    let distinct : is_distinct (f ∷ is.stored) ≡ true = and_from (not (includes is.stored f)) (is_distinct is.stored)
    (ap not (none_of is.stored f is.other)) is.apart in
    let all : Covers plan (f ∷ is.stored) = λ g i. grind (arith, Has-cases f is.stored g i, is.planned g) in
    let size = is.all in
    let long : length (f ∷ is.stored) ≤ length plan = covered_length (f ∷ is.stored) plan distinct all in omega arith

-- ---- a view that fits

pub live_grows : (t : Terms) (ws later : List ℕ) (v : View) → KeepsWords ws later → LiveFits t ws v → LiveFits t later v
live_grows t ws later v keeps fits = grind (arith, All-weaker, denotes_grows, stored_grows, fits_grows)

module _ (v : View) (ws : List ℕ) (table : IsTable v.terms ws) (fits : LiveFits v.terms ws v) where
  pub agrees : AgreesWith v.terms.vars ws (known_by v.known)
  agrees = agrees_of v.terms.vars ws v.known fits.known

  stored : (f : Family) → Has v.held f → IsStored v.terms.vars ws f
  stored f h = All-Has (IsStored v.terms.vars ws) v.held f fits.held h

  no_constant : (h : ℕ) (f : Family) → h < 2 → DenotesIn v.terms.vars ws h f → includes v.held f ≡ false
  no_constant h f less d = none_of v.held f (λ i. let s = stored f i in
      let e : suc (suc s.at) ≡ h = one_handle v.terms.bits v.terms.vars ws table.canonical s.denotes d refl in absurd (omega arith))

  node_list : is_node_list v.held ≡ true
  node_list = grind (arith, no_constant 0 [] (omega arith) nothing, no_constant 1 (0 ∷ []) (omega arith) unit)

  -- it is a store
  pub sound : v.live ≡ true → IsSoundView v
  unfolding view_state
  sound live = record {
    live = live;
    store = λ name. record {
      empty = fits.empty;
      unit = fits.unit;
      families = λ h f is. let d = agrees h f is in IsFamily_wider (suc v.terms.vars - var_at v.terms.vars ws h) v.terms.vars f
          (variables_from v.terms.bits v.terms.vars ws table.canonical d)
          (omega (arith, var_some v.terms.bits v.terms.vars ws table.canonical h (denotes_handle v.terms.vars ws d)));
      one_to_one = known_one v.terms.bits v.terms.vars ws (known_by v.known) table.canonical agrees;
      subs = fits.subs;
      distinct = node_list;
      room = held_fits v.terms.bits v.terms.vars ws table.canonical v.held fits.held fits.apart;
      planned = λ f h. let s = stored f h in let t = table.planned s.at s.filled in
          subst (Has v.terms.plan) (denotes_one v.terms.vars ws t.1 s.denotes) t.2;
      vars_low = table.vars_low;
      vars_high = table.vars_high;
      counted = refusals_of-below v.history;
      legal = legal v.terms.bits v.terms.vars ws table.canonical v.history fits.history;
    };
    bits_high = table.bits_high;
    small = λ h f is. handle_below (2 ^ v.terms.bits) ws (table.canonical).size h (denotes_handle v.terms.vars ws (agrees h f is));
    pairs = pairs_known v.terms.vars ws v.known fits.known;
  }

-- a view that goes on from one without a step of the cache is new only where that one was
pub goes_new : (v u : View) (more : List Entry) → Goes v more u → steps_of u ≡ steps_of v → IsNew u → IsNew v
goes_new v u more goes steps new = record {
  whole = sym (ap (λ (s : Steps). s.splits) steps) ∙ new.whole;
  kept = sym (ap (λ (s : Steps). s.stores) steps) ∙ new.kept;
  met = left_nil v.history more (sym goes.history ∙ new.met);
}

-- and not where it met a slot
pub met_not_new : (v u : View) (e : Entry) (es : List Entry) → Goes v (e ∷ es) u → IsNew u → ⊥
met_not_new v u e es goes new = some_more v.history es e (sym goes.history ∙ new.met)

-- what is added to a view: pairs, whose families are held then, more families and entries, the cache word that was loaded last, and
-- how many were loaded then
pub record Addition (v : View) (ws : List ℕ) : Type 0 where
  pub extra : List (ℕ × Family)
  pub pairs : All (IsPair v.terms.vars ws) extra
  pub more : List Family
  pub stored : All (IsStored v.terms.vars ws) more
  pub entries : List Entry
  pub history : FitsHistory (2 ^ v.terms.bits) ws (v.history ++ entries)
  pub last : Option (ℕ × ℕ)
  pub loads : ℕ

module _ (v : View) (ws : List ℕ) (table : IsTable v.terms ws) (fits : LiveFits v.terms ws v) where
  abbrev bits : ℕ
  bits = v.terms.bits

  abbrev vars : ℕ
  vars = v.terms.vars

  module _ (add : Addition v ws) where
    abbrev added : List Family
    added = add.more ++ subs_of vars add.extra

    abbrev pub learned : View
    learned = record v {
      known = v.known ++ add.extra;
      held = merged v.held added;
      history = v.history ++ add.entries;
      last = add.last;
      loads = add.loads;
    }

    pub learned_known : (h : ℕ) (f : Family) → Contains add.extra (h, f) → known_by learned.known h ≡ Some f
    learned_known h f c = second_stays vars ws v.known add.extra fits.known add.pairs h f (pairs_known vars ws add.extra add.pairs h f c)

    pub learned_fits : LiveFits v.terms ws learned
    learned_fits = record {
      of = refl;
      empty = first_stays v.known add.extra 0 [] fits.empty;
      unit = first_stays v.known add.extra 1 (0 ∷ []) fits.unit;
      known = All-append (IsPair vars ws) v.known add.extra fits.known add.pairs;
      subs = λ h f is g i.
          grind (arith, append_cases, fits.subs h f, covers_subs vars add.extra h f, merged_keeps, merged_has, Has-append_right);
      held = merged_all (IsStored vars ws) v.held added fits.held
          (All-append (IsStored vars ws) add.more (subs_of vars add.extra) add.stored
          (all_subs (IsStored vars ws) vars add.extra (λ k d less. subs_stored bits vars ws table.canonical (add.pairs k d less))));
      apart = merged_distinct v.held added fits.apart;
      history = add.history;
    }

    pub learned_sound : v.live ≡ true → IsSoundView learned
    learned_sound = sound learned ws table learned_fits

    pub learned_goes : Goes v add.entries learned
    learned_goes = record { terms = refl; known = first_stays v.known add.extra; held = merged_keeps v.held added; history = refl }

  -- a filled slot is met, and teaches its handle and its children
  pub meets : v.live ≡ true → (s : ℕ) → IsFilled ws s → (more : List Entry) → FitsHistory (2 ^ bits) ws (v.history ++ more)
      → (u : View) × LiveFits v.terms ws u × Meets v more s (slice_index ws s) u × (steps_of u ≡ steps_of v)
  meets live s filled more history = let own = table.planned s filled in by_slot own.0 own.1
    where
      by_slot : (f : Family) → DenotesIn vars ws (suc (suc s)) f
          → (u : View) × LiveFits v.terms ws u × Meets v more s (slice_index ws s) u × (steps_of u ≡ steps_of v)
      by_slot f (slot _ low high _ _ l h is) =
          let w : ℕ = slice_index ws s in let node = table.canonical.nodes s filled in
          let own : DenotesIn vars ws (suc (suc s)) f = slot s low high f filled l h is in
          let add : Addition v ws = record {
            extra = (suc (suc s), f) ∷ (lo_of w, low) ∷ (hi_of w, high) ∷ [];
            pairs = grind (arith, All-cons, All-nil, own);
            more = [];
            stored = All-nil (IsStored vars ws);
            entries = more;
            history = history;
            last = v.last;
            loads = v.loads;
          } in
          let know = learned_known add in (
            learned add,
            learned_fits add,
            record {
              sound = learned_sound add live;
              goes = learned_goes add;
              teaches = record {
                first = node.first;
                last = node.last;
                full = node.full;
                children = λ f' known. record {
                  low = low;
                  high = high;
                  known = (know (lo_of w) low (1, omega arith, refl), know (hi_of w) high (2, omega arith, refl));
                  low_after = low_after bits vars ws table.canonical s low high filled l h;
                  high_after = high_after bits vars ws table.canonical s low high filled l h;
                  is = denotes_one vars ws (agrees v ws table fits (suc (suc s)) f' known) own ∙ is;
                };
                handle = λ low' high' known. know (suc (suc s)) f (0, omega arith, refl)
                    ∙ ap Some (is ∙ (λ k. join (vars - var_of w) (denotes_one vars ws l (agrees v ws table fits (lo_of w) low' known.0) k)
                    (denotes_one vars ws h (agrees v ws table fits (hi_of w) high' known.1) k)));
              };
            },
            refl,
          )

  module _ (w : ℕ) (asked : IsAsked v w) where
    low_denotes : DenotesIn vars ws (lo_of w) asked.low
    low_denotes = agrees v ws table fits (lo_of w) asked.low asked.known.0

    high_denotes : DenotesIn vars ws (hi_of w) asked.high
    high_denotes = agrees v ws table fits (hi_of w) asked.high asked.known.1

    node : IsNodeWord vars ws w
    node = let can = table.canonical in
        let low_later = later_variable bits vars ws can (var_of w) asked.first asked.last low_denotes asked.low_after in
        let high_later = later_variable bits vars ws can (var_of w) asked.first asked.last high_denotes asked.high_after in
        grind (arith, denotes_handle, low_denotes, high_denotes)

    -- a vacant slot on the word's path is filled with it
    module _ (d i : ℕ) (next : IsNext v w d i) (inside : i < 2 ^ bits) (vacant : slice_index ws i ≡ 0) where
      may_fill : MayFill bits vars ws i w
      may_fill = record {
        node = node;
        steps = d;
        within = next.within;
        there = next.there;
        others = λ e less. met_other (2 ^ bits) ws v.history fits.history w (place bits w e) (next.others e less);
      }

      pub here : slice_index (set ws i w) i ≡ w
      here = grind (arith, get_or-set_same, table.canonical)

      pub here_filled : IsFilled (set ws i w) i
      here_filled e = node_some vars ws w node (sym here ∙ e)

      own_slot : DenotesIn vars (set ws i w) (suc (suc i)) (join (vars - var_of w) asked.low asked.high)
      own_slot = let still = filling_grows ws i w vacant in
          slot i asked.low asked.high (join (vars - var_of w) asked.low asked.high) here_filled
          (rw here (denotes_grows vars ws (set ws i w) still low_denotes)) (rw here (denotes_grows vars ws (set ws i w) still high_denotes))
          (rw here refl)

      planned : (s : ℕ) → IsFilled (set ws i w) s → (f : Family) × DenotesIn vars (set ws i w) (suc (suc s)) f × Has v.terms.plan f
      planned s filled = dite (ℕ_discrete s i)
          (λ e. (
            join (vars - var_of w) asked.low asked.high,
            subst (λ k. DenotesIn vars (set ws i w) (suc (suc k)) (join (vars - var_of w) asked.low asked.high)) (sym e) own_slot,
            asked.planned,
          ))
          (λ ne. let same : slice_index (set ws i w) s ≡ slice_index ws s = get_or-set_other ws i s w 0 ne in
          let t = table.planned s (λ none'. filled (same ∙ none')) in
          (t.0, denotes_grows vars ws (set ws i w) (filling_grows ws i w vacant) t.1, t.2))

      pub filled_table : IsTable v.terms (set ws i w)
      filled_table = record {
        canonical = fills bits vars ws i w table.canonical vacant inside may_fill;
        planned = planned;
        vars_low = table.vars_low;
        vars_high = table.vars_high;
        bits_low = table.bits_low;
        bits_high = table.bits_high;
      }

  module _ (w i : ℕ) (filled : IsFilled ws i) (other : slice_index ws i ≢ w) where
    -- at the end of the path each slot was met, or is the one that is met now, with another word
    seen : (d : ℕ) → IsNext v w d i → suc d ≡ 2 ^ bits → (s : ℕ) → s < 2 ^ bits → (s ≡ i) ⊎ MetOther v.history w s
    seen d next end s less = let c = path_is_whole bits w s table.bits_low less in dite (ℕ_discrete c.steps d)
        (λ e. inl (sym c.there ∙ (ap (place bits w) e ∙ next.there)))
        (λ ne. inr (subst (MetOther v.history w) c.there (next.others c.steps (omega (arith, c.within)))))

    all_other : (d : ℕ) → IsNext v w d i → suc d ≡ 2 ^ bits → (s : ℕ) → s < 2 ^ bits → IsFilled ws s × (slice_index ws s ≢ w)
    all_other d next end s less = grind (arith, seen d next end s less, met_other (2 ^ bits) ws v.history fits.history w s)

    pub passes : (last : Bool) → EndsPath v w i last
        → FitsHistory (2 ^ bits) ws (v.history ++ passing last (suc (suc i)) (slice_index ws i) w)
    passes false next = fits_append (2 ^ bits) ws v.history (Met (suc (suc i)) (slice_index ws i) ∷ []) fits.history
        (record { at = i; is = refl; found = refl; some = filled }, tt)
    passes true next = let n = (next refl).1 in
        fits_then (2 ^ bits) ws [] v.history (Met (suc (suc i)) (slice_index ws i) ∷ Full w ∷ []) fits.history (λ met' _ new. (
          record { at = i; is = refl; found = refl; some = filled },
          (
            record {
              filled = λ s less. (all_other n.0 n.1 n.2 s less).0;
              other = λ s less. (all_other n.0 n.1 n.2 s less).1;
              all_met = λ s less. elim (seen n.0 n.1 n.2 s less) [
                | inl e ↦ rw e (has_head (suc (suc i)) met')
                | inr t ↦ has_tail (suc (suc i)) met' (suc (suc s)) (new (suc (suc s)) t.0 t.1)
              ];
            },
            tt,
          ),
        ))

    pub passes_over : (last : Bool) → EndsPath v w i last → last ≡ true → HasNoRoom v w
    passes_over last next is low high known =
        let asked = (next is).0 in let n = (next is).1 in let l = low_denotes w asked in let h = high_denotes w asked in
        grind (
          arith,
          denotes_one vars ws l (agrees v ws table fits (lo_of w) low known.0),
          denotes_one vars ws h (agrees v ws table fits (hi_of w) high known.1),
          crowded v.terms ws table w asked.low asked.high l h asked.first asked.last asked.full asked.low_after asked.high_after
              (all_other n.0 n.1 n.2),
        )
