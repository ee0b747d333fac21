-- Canonical tables: what may be filled, what handles denote, and that each family has one handle at most.
use Rattle.std.proofs.Common.{pow_mono, All, ◌≡◌, ℕ, ◌*◌, ◌%◌, ◌^◌, ◌<◌, ◌≤◌, ap, ◌∙◌, arith, ◌≢◌, zero, suc, ◌⊎◌}
use Rattle.std.proofs.Common.{List, [], ◌∷◌, length, slice_index, set, sym, refl, subst, length-set, get_or-set_same, get_or-set_other}
use Rattle.std.proofs.Common.{replicate, ◌-◌, true, Option, Some, None, ⊎_elim, map, lt-ltb}
use Rattle.std.proofs.lemmas.List.{length-map, length-replicate, get_or-replicate}
use Rattle.lattice.specs.Words.{Has, Covers, numbers_below, has, Family, IsFamily, is_distinct, var_of, lo_of, hi_of, place, IsFilled}
use Rattle.lattice.specs.Words.{IsHandle, var_at, IsNodeWord, IsReached, IsCanonical, MayFill, KeepsWords, DenotesIn, nothing, unit, slot}
use Rattle.lattice.specs.Words.{IsStored, join, level, IsTrueWord, KnownIsOneToOne, UnionAgrees, first_known}
use Rattle.std.proofs.lemmas.Bool.{cases_order}
use Rattle.lattice.specs.declared.limits.TheConstants.{MAX_BITS}
use native.Mathlib.Decide.{ℕ_discrete}
use Rattle.lattice.proofs.Cofactors.{join_parts, IsFamily-join_suc, level-join, level-unit, level-nil}
use Rattle.lattice.proofs.NumberLaws.{weight_is}
use Rattle.lattice.proofs.WordParts.{same_word}
use Rattle.lattice.proofs.Families.{has_none, has_cases, has-numbers_below, length-numbers_below, Has-nil, Has-cases, covered_length}
use Rattle.lattice.proofs.Families.{IsFamily_wider, IsFamily-nil, IsFamily-unit, Has-head, Has-tail}
use Rattle.std.proofs.lemmas.List.Elements.{All-head, All-tail, All-weaker}

-- No table has more slots than the largest one.
pub slots_most : (bits : ℕ) → bits ≤ MAX_BITS → 2 ^ bits ≤ 2 ^ MAX_BITS
slots_most bits le = pow_mono le

-- `1 << bits` is the number of slots.
pub shifted_one : (bits : ℕ) → bits ≤ MAX_BITS → 1 * 2 ^ bits % 18446744073709551616 ≡ 2 ^ bits
shifted_one bits le = weight_is bits (omega (arith, le))

-- A handle stays one while the words of a table are kept.
pub grows_handle : (ws ws' : List ℕ) → KeepsWords ws ws' → (h : ℕ) → IsHandle ws h → IsHandle ws' h
grows_handle ws ws' grows h is = grind arith

grows_var : (vars : ℕ) (ws ws' : List ℕ) → KeepsWords ws ws' → (h : ℕ) → IsHandle ws h → var_at vars ws' h ≡ var_at vars ws h
grows_var vars ws ws' grows h is = grind arith

pub grows_node : (vars : ℕ) (ws ws' : List ℕ) → KeepsWords ws ws' → (w : ℕ) → IsNodeWord vars ws w → IsNodeWord vars ws' w
grows_node vars ws ws' grows w is = grind (arith, grows_handle, grows_var)

-- A filled slot stays filled where filled slots keep their words.
pub grows_filled : (ws ws' : List ℕ) → KeepsWords ws ws' → (s : ℕ) → IsFilled ws s → IsFilled ws' s
grows_filled ws ws' grows s is = grind arith

grows_path : (bits : ℕ) (ws ws' : List ℕ) → KeepsWords ws ws' → (w i : ℕ) → IsReached bits ws w i → IsReached bits ws' w i
grows_path bits ws ws' grows w i is = grind (arith, grows_filled)

-- A slot that is filled is one of the table's.
pub filled_within : (l : List ℕ) (i : ℕ) → IsFilled l i → i < length l
filled_within [] i some = absurd (some refl)
filled_within (x ∷ xs) zero some = omega arith
filled_within (x ∷ xs) (suc i) some = omega (arith, filled_within xs i some)

-- The word of a node is not the word of a vacant slot.
pub node_some : (vars : ℕ) (ws : List ℕ) (w : ℕ) → IsNodeWord vars ws w → w ≢ 0
node_some vars ws w is e = let h = is.first in omega arith

-- A word put into a vacant slot leaves the other words as they are.
pub filling_grows : (ws : List ℕ) (i w : ℕ) → slice_index ws i ≡ 0 → KeepsWords ws (set ws i w)
filling_grows ws i w vacant j is = grind (arith, get_or-set_other ws i j w 0)

module _ (bits vars : ℕ) (ws : List ℕ) (i w : ℕ) (can : IsCanonical bits vars ws) (vacant : slice_index ws i ≡ 0) (inside : i < 2 ^ bits)
    (may : MayFill bits vars ws i w) where
  slot_is : (j : ℕ) → ((j ≡ i) × (slice_index (set ws i w) j ≡ w)) ⊎ ((j ≢ i) × (slice_index (set ws i w) j ≡ slice_index ws j))
  slot_is j = grind (arith, get_or-set_same ws i w 0, get_or-set_other ws i j w 0, can.size)

  -- no other slot has the word: it would stand behind the vacant place on the path, or have been met before it
  new : (j : ℕ) → slice_index ws j ≡ w → ⊥
  new j is = grind (arith, node_some, cases_order)

  -- A canonical table stays canonical where a node's word is put into a vacant slot on its path.
  pub fills : IsCanonical bits vars (set ws i w)
  fills =
      let keeps = filling_grows ws i w vacant in
      let own : IsReached bits ws w i =
      record { steps = may.steps; within = may.within; there = may.there; before = λ e l. (may.others e l).0 } in
      record {
        size = length-set ws i w ∙ can.size;
        nodes = λ j is. ⊎_elim (λ p. rw p.1 (grows_node vars ws _ keeps w may.node))
            (λ p. rw p.1 (grows_node vars ws _ keeps _ (can.nodes j (rw p.1 at is)))) (slot_is j);
        paths = λ j is. ⊎_elim (λ p. rw (p.1, p.0) (grows_path bits ws _ keeps w i own))
            (λ p. rw p.1 (grows_path bits ws _ keeps _ j (can.paths j (rw p.1 at is)))) (slot_is j);
        apart = λ j k is same. grind (arith, slot_is j, slot_is k, new j, new k, can.apart j k);
      }

-- A table of vacant places has no filled slot.
pub none_filled : (n i : ℕ) → IsFilled (replicate n 0) i → ⊥
none_filled n i is = grind (arith, filled_within, get_or-replicate, length-replicate)

-- What a handle denotes it denotes in a table where filled slots keep their words.
pub denotes_grows : (vars : ℕ) (ws ws' : List ℕ) → KeepsWords ws ws' → {h : ℕ} {family : List ℕ} → DenotesIn vars ws h family
    → DenotesIn vars ws' h family
denotes_grows vars ws ws' keeps nothing = nothing
denotes_grows vars ws ws' keeps unit = unit
denotes_grows vars ws ws' keeps (slot s low high family filled l h is) =
    let same = keeps s filled in slot s low high family (grows_filled ws ws' keeps s filled)
    (rw same (denotes_grows vars ws ws' keeps l)) (rw same (denotes_grows vars ws ws' keeps h)) (rw same is)

-- A handle denotes one family at most.
pub denotes_one : (vars : ℕ) (ws : List ℕ) → {h : ℕ} {f g : List ℕ} → DenotesIn vars ws h f → DenotesIn vars ws h g → f ≡ g
denotes_one vars ws nothing nothing = refl
denotes_one vars ws unit unit = refl
denotes_one vars ws (slot s low high f filled l h is) (slot _ low' high' _ filled' l' h' is') =
    is ∙ ((λ k. join (vars - var_of (slice_index ws s)) (denotes_one vars ws l l' k) (denotes_one vars ws h h' k)) ∙ sym is')

-- A handle that denotes a family is a constant or that of a filled slot.
pub denotes_handle : (vars : ℕ) (ws : List ℕ) → {h : ℕ} {f : List ℕ} → DenotesIn vars ws h f → IsHandle ws h
denotes_handle vars ws nothing = tt
denotes_handle vars ws unit = tt
denotes_handle vars ws (slot s low high f filled l h is) = filled

join_some : (d : ℕ) (lo hi : Family) → hi ≢ [] → join d lo hi ≢ []
unfolding join
join_some d [] [] ne e = ne refl
join_some d [] (x ∷ hi) ne e = cc
join_some d (x ∷ lo) hi ne e = cc

module _ (bits vars : ℕ) (ws : List ℕ) (can : IsCanonical bits vars ws) where
  -- A handle other than 0 denotes a family with members.
  pub some_members : {h : ℕ} {f : Family} → DenotesIn vars ws h f → h ≢ 0 → f ≢ []
  some_members nothing some = absurd (some refl)
  some_members unit some = λ e. cc
  some_members (slot s low high f filled l h is) some = λ e. join_some _ low high (some_members h (can.nodes s filled).full) (sym is ∙ e)

  -- The variables of what a handle denotes are from its own on.
  pub variables_from : {h : ℕ} {f : Family} → DenotesIn vars ws h f → IsFamily (suc vars - var_at vars ws h) f
  variables_from nothing = IsFamily-nil (suc vars - suc vars)
  variables_from unit = IsFamily-unit (suc vars - suc vars)
  variables_from (slot s low high f filled l h is) =
      let d : ℕ = vars - var_of (slice_index ws s) in let node = can.nodes s filled in
      let more : suc d ≡ suc vars - var_of (slice_index ws s) = omega (arith, node.last) in
      rw (← more, is) (IsFamily-join_suc d low high (IsFamily_wider _ d low (variables_from l) (omega (arith, node.low_later)))
      (IsFamily_wider _ d high (variables_from h) (omega (arith, node.high_later))))

  -- what a slot's children denote
  module _ (s : ℕ) (low high : Family) (filled : IsFilled ws s) (l : DenotesIn vars ws (lo_of (slice_index ws s)) low)
      (h : DenotesIn vars ws (hi_of (slice_index ws s)) high) where
    node : IsNodeWord vars ws (slice_index ws s)
    node = can.nodes s filled

    -- The family of a slot's low child has its variables behind the slot's.
    pub low_after : IsFamily (vars - var_of (slice_index ws s)) low
    low_after = IsFamily_wider _ _ low (variables_from l) (omega (arith, node.low_later))

    -- The family of a slot's high child has its variables behind the slot's.
    pub high_after : IsFamily (vars - var_of (slice_index ws s)) high
    high_after = IsFamily_wider _ _ high (variables_from h) (omega (arith, node.high_later))

    -- The first variable of a slot's family is its node's.
    pub slot_level : level vars (join (vars - var_of (slice_index ws s)) low high) ≡ suc (vars - var_of (slice_index ws s))
    slot_level = level-join _ vars low high low_after high_after (some_members h node.full) (omega (arith, node.first, node.last))

    -- the slot denotes no family without variables
    not_constant : (f g : Family) → f ≡ join (vars - var_of (slice_index ws s)) low high → level vars g ≡ 0 → g ≡ f → ⊥
    not_constant f g is none e = absurd (omega (arith, slot_level, ap (level vars) (e ∙ is)))

  -- In a canonical table a family has one handle at most.
  pub one_handle : {h g : ℕ} {f f' : Family} → DenotesIn vars ws h f → DenotesIn vars ws g f' → f ≡ f' → h ≡ g
  one_handle nothing nothing e = refl
  one_handle nothing unit e = cc
  one_handle nothing (slot s low high f filled l h is) e = absurd (not_constant s low high filled l h f [] is (level-nil vars) e)
  one_handle unit nothing e = cc
  one_handle unit unit e = refl
  one_handle unit (slot s low high f filled l h is) e = absurd (not_constant s low high filled l h f (0 ∷ []) is (level-unit vars) e)
  one_handle (slot s low high f filled l h is) nothing e = absurd (not_constant s low high filled l h f [] is (level-nil vars) (sym e))
  one_handle (slot s low high f filled l h is) unit e = absurd (not_constant s low high filled l h f (0 ∷ []) is (level-unit vars) (sym e))
  one_handle (slot s low high f filled l h is) (slot s' low' high' f' filled' l' h' is') e =
      let n = can.nodes s filled in let n' = can.nodes s' filled' in
      let parts = join_parts vars (vars - var_of (slice_index ws s)) (vars - var_of (slice_index ws s')) low high low' high'
      (low_after s low high filled l h) (high_after s low high filled l h) (low_after s' low' high' filled' l' h')
      (high_after s' low' high' filled' l' h') (some_members h n.full) (some_members h' n'.full)
      (omega (arith, n.first, n.last)) (omega (arith, n'.first, n'.last)) (sym is ∙ (e ∙ is')) in
      let lows = one_handle l l' parts.1 in let highs = one_handle h h' parts.2 in
      ap (λ (k : ℕ). suc (suc k)) (can.apart s s' filled (same_word _ _ (omega (arith, n.last, n'.last, parts.0)) lows highs))

-- What filled slots denote they denote where they keep their words.
pub stored_grows : (vars : ℕ) (ws later : List ℕ) → KeepsWords ws later → (f : Family) → IsStored vars ws f → IsStored vars later f
stored_grows vars ws later keeps f is = grind (arith, denotes_grows)

-- A true cache word stays true where filled slots keep their words.
pub true_word_stays : (c vars place w : ℕ) (ws later : List ℕ) → KeepsWords ws later → IsTrueWord c vars ws place w
    → IsTrueWord c vars later place w
true_word_stays c vars place w ws later keeps is = grind (arith, denotes_grows, All-weaker, stored_grows)

Has-map : (g : ℕ → Family) (xs : List ℕ) (x : ℕ) → has xs x ≡ true → Has (map g xs) (g x)
Has-map g [] x h = has_none x h
Has-map g (y ∷ xs) x h = grind (arith, has_cases y xs x h, Has-head, Has-tail, Has-map g xs x)

stored_one : (vars : ℕ) (ws : List ℕ) (fs : List Family) (f : Family) → All (IsStored vars ws) fs → Has fs f → IsStored vars ws f
stored_one vars ws [] f all h = absurd (Has-nil f h)
stored_one vars ws (g ∷ gs) f all h = ⊎_elim (λ e. rw (← e) (All-head (IsStored vars ws) g gs all))
    (stored_one vars ws gs f (All-tail (IsStored vars ws) g gs all)) (Has-cases g gs f h)

module _ (bits vars : ℕ) (ws : List ℕ) (can : IsCanonical bits vars ws) where
  -- by induction on the number of variables from the handle's own on
  denoted_within : (n h : ℕ) → IsHandle ws h → suc vars - var_at vars ws h ≤ n → (f : Family) × DenotesIn vars ws h f
  denoted_within n zero is more = ([], nothing)
  denoted_within n (suc zero) is more = (0 ∷ [], unit)
  denoted_within zero (suc (suc s)) is more = absurd (omega (arith, (can.nodes s is).last))
  denoted_within (suc n) (suc (suc s)) is more =
      let node = can.nodes s is in let low = denoted_within n _ node.low (omega (arith, node.low_later)) in
      let high = denoted_within n _ node.high (omega (arith, node.high_later)) in (_, slot s low.0 high.0 _ is low.1 high.1 refl)

  -- Each handle of a canonical table denotes a family.
  pub denoted : (h : ℕ) → IsHandle ws h → (f : Family) × DenotesIn vars ws h f
  denoted h is = denoted_within (suc vars - var_at vars ws h) h is (omega arith)

  -- what the handle of a slot denotes, if it is filled
  at_slot : (s : ℕ) → Dec (slice_index ws s ≡ 0) → (f : Family) × ((g : Family) → IsFilled ws s → DenotesIn vars ws (suc (suc s)) g → f ≡ g)
  at_slot s (yes none) = ([], λ g filled is. absurd (filled none))
  at_slot s (no is) = let d = denoted (suc (suc s)) is in (d.0, λ g filled. denotes_one vars ws d.1)

  -- Distinct families of filled slots are no more than there are slots.
  pub held_fits : (fs : List Family) → All (IsStored vars ws) fs → is_distinct fs ≡ true → length fs ≤ 2 ^ bits
  held_fits fs all d =
      let at : ℕ → Family = λ s. (at_slot s (ℕ_discrete (slice_index ws s) 0)).0 in let slots = numbers_below (2 ^ bits) in
      let covers : Covers (map at slots) fs = λ f h. let s = stored_one vars ws fs f all h in
      subst (Has (map at slots)) ((at_slot s.at _).1 f s.filled s.denotes) (Has-map at slots s.at
      (grind (arith, has-numbers_below (2 ^ bits) s.at, lt-ltb s.at (2 ^ bits), filled_within ws s.at s.filled, can.size))) in
      omega (arith, covered_length fs (map at slots) d covers, length-map slots at, length-numbers_below (2 ^ bits))

-- A map that agrees with a canonical table is one-to-one.
pub known_one : KnownIsOneToOne
known_one bits vars ws known can agrees h k f is is' = one_handle bits vars ws can (agrees h f is) (agrees k f is') refl

second_is : (p : Option Family) (f : Family) → ((g : Family) → p ≡ Some g → g ≡ f) → first_known p (Some f) ≡ Some f
second_is None f same = refl
second_is (Some g) f same = ap Some (same g refl)

-- Of two maps that agree with one table the union does.
pub union_agrees : UnionAgrees
union_agrees vars ws known other one two = (
  λ h f is. grind (arith, one h, two h),
  λ h f is. grind arith,
  λ h f is. rw is (second_is (known h) f (λ g e. denotes_one vars ws (one h g e) (two h f is))),
)
