-- The steps of the recursions on two operands: for the points of a set at which a polynomial is 1, and for the product of two polynomials.
use Rattle.std.proofs.Common.{◌≡◌, ℕ, suc, ◌-◌, ◌*◌, ◌^◌, ◌<◌, ◌≤◌, max, false, ◌&&◌, ◌||◌, arith, true, ◌≢◌, Some, Ok, Err, Result}
use Rattle.std.proofs.Common.{IfOk, [], ◌∷◌, ◌++◌, refl, ◌∙◌, ap, ◌⊎◌, inl, inr, List}
use Rattle.std.proofs.lemmas.Bool.{cases_Bool, or_right}
use Rattle.lattice.specs.Words.{Family, IsFamily, Covers, exactly_one, high_cofactor, is_empty, is_constant, level, sub, needs}
use Rattle.lattice.specs.Words.{ones_list, working_set, operation_list, ones_of, sum_of, product_of, product_list, value}
use Rattle.lattice.specs.declared.op.Op.TheVariants.{Ones, Product}
use Rattle.lattice.proofs.Diagrams.{level-below, covers_one, covers_head, covers_nil, covers_tail, covers_part}
use Rattle.lattice.proofs.Polynomials.{IsFamily-low_cofactor, IsFamily-high_cofactor, product_by_values, not_constant}
use Rattle.node_store.specs.Stores.{State, Knows, Denotes, family, IsSound, IsPlanned, Reads, needs_of, Grows, Gives, Builds}
use Rattle.node_store.specs.declared.store.Handle.{Handle}
use Rattle.node_store.specs.declared.store.Full.{Full}
use Rattle.node_store.proofs.StoreLaws.{Denotes-family, Denotes-knows, Gives-after, Grows-family, Grows-knows, Knows-denotes, Reads-refl}
use Rattle.node_store.proofs.StoreLaws.{Reads-trans, filled, known_after, zero_family, one_family, gives_as}
use Rattle.node_store.proofs.StoreLaws.{found_built, gives_fewer, builds_gives, Builds-known, found_gives}
use Rattle.node_store.proofs.StoreLaws.{found_read, Grows-trans}
use Rattle.set_algebra.specs.Pairs.{AreCofactors, IsCutAt}
use Rattle.set_algebra.specs.declared.pairs.Cofactors.{Cofactors}
use Rattle.set_algebra.proofs.Levels.{top_after, top_later}
use Rattle.set_algebra.proofs.Calls.{Calls, AreAtHand, IsAtHand, LastNode, also_planned, after_call, after_combined, after_other}
use Rattle.set_algebra.proofs.Calls.{call_planned, calls_in_order, cofactors_start, combined_planned, last_node}
use Rattle.bool_poly.specs.Parts.{AreOnes, AsksOnes, AsksWith, high_part, low_part, sum_at, with_needs, with_part}
use Rattle.bool_poly.proofs.Families.{AreCutAt, AreFull, lower, part_after, ones_of-nothing, ones_of-unit, ones_of-join, IsFamily-ones_of}
use Rattle.bool_poly.proofs.Families.{ones_list-none, ones_list-unit, covers_self, covers_low, covers_high, covers_all, at_one}
use Rattle.bool_poly.proofs.Families.{product_of-left_none, product_of-right_unit, product_of-swap, product_of-join, product_of-narrow}
use Rattle.bool_poly.proofs.Families.{product_list-constant, product_list-swap, product_list-narrow, IsFamily-product_of, low_product}
use Rattle.bool_poly.proofs.Families.{high_product, product_calls, as_called, as_listed, product_list_is, product_high}

-- ---- the cut

-- one of two families has the first variable of both
one_has_it : (n d : ℕ) (f g : Family) → d < n → IsFamily (suc d) f → IsFamily (suc d) g → max (level n f) (level n g) ≡ suc d
    → (is_empty (high_cofactor d f) && is_empty (high_cofactor d g)) ≡ false
one_has_it n d f g less ff gf top =
    let below : (k : Family) → IsFamily (suc d) k → is_empty (high_cofactor d k) ≡ true → level n k ≤ d =
    λ k is e. level-below d n k (lower d k is e) (omega arith) in
    grind (arith, below f ff, below g gf, cases_Bool (is_empty (high_cofactor d f)), cases_Bool (is_empty (high_cofactor d g)))

-- two families at their first variable
cut_families : {s : State} {a b : Handle} {var : ℕ} → IsSound s → Knows s a → Knows s b → IsCutAt s a b var
    → AreCutAt s.vars (s.vars - var) (family s a) (family s b)
cut_families {s} {a} {b} {var} ok ka kb cut = grind (arith, top_after, one_has_it)

-- the parts of two operands
abbrev parts_of : State → Handle → Handle → Cofactors → List (Handle × Family)
parts_of s a b c =
    (c.a_low, low_part s c a) ∷ (c.a_high, high_part s c a) ∷ (c.b_low, low_part s c b) ∷ (c.b_high, high_part s c b) ∷ []

-- ---- the points: results at once

module _ {s : State} (h set : Handle) (ok : IsSound s) where
  pub at_nothing : (r : Handle) → r.0 ≡ 0 → (h.0 ≡ 0) ⊎ (set.0 ≡ 0)
      → Gives s s (Ok r) (ones_of s.vars (family s h) (family s set)) (needs_of s Ones h set.0)
  unfolding needs operation_list
  at_nothing r zero either = grind (arith, zero_family, or_right, ones_of-nothing, ones_list-none, gives_fewer, covers_nil, Builds-known)

  pub at_unit : Knows s set → set.0 ≢ 0 → h.0 ≡ 1
      → Gives s s (Ok set) (ones_of s.vars (family s h) (family s set)) (needs_of s Ones h set.0)
  unfolding needs operation_list
  at_unit known some e = rw (
    one_family h ok e,
    ones_of-unit s.vars (family s set) (known_after s set ok known),
    ones_list-unit s.vars (family s set) (filled s set ok known some),
  ) (builds_gives s s (Ok set) (family s set) (Builds-known s set _ ok (Knows-denotes s set known)))

-- ---- the points: one step

are_full : {s : State} {h set : Handle} → IsSound s → AsksOnes s h set → 2 ≤ h.0 → 1 ≤ set.0 → AreFull (family s h) (family s set)
are_full {s} {h} {set} ok asks varies points = grind (arith, filled, Knows-denotes)

-- in t the parts of the operands at their first variable are at hand; the list stays whole behind the calls, since AreOnes says what of
-- it is held
pub record OnesCut (s t : State) (h set : Handle) (c : Cofactors) : Type 0 where
  full : AreFull (family s h) (family s set)
  cut : AreCutAt s.vars (s.vars - c.var) (family s h) (family s set)
  pub top : max (level s.vars (family s h)) (level s.vars (family s set)) ≡ suc (s.vars - c.var)
  pub calls : Calls s t (s.vars - c.var) (ones_list s.vars (family s h) (family s set)) (ones_list s.vars (family s h) (family s set))
      (parts_of s h set c)

pub ones_cut : {s t : State} {h set : Handle} {c : Cofactors} → IsSound s → AsksOnes s h set → 2 ≤ h.0 → 1 ≤ set.0 → Reads s t
    → AreCofactors s t h set c → OnesCut s t h set c
unfolding needs operation_list
ones_cut ok asks varies points reads are = record {
  full = are_full ok asks varies points;
  cut = cut_families ok asks.polynomial asks.points (record { first = are.first; last = are.last; top = are.top });
  top = are.top;
  calls = cofactors_start reads are asks.planned refl;
}

module _ {s t : State} {h set : Handle} {c : Cofactors} (k : OnesCut s t h set c) where
  abbrev parts : AreAtHand t (s.vars - c.var) (parts_of s h set c)
  parts = k.calls.here

  -- the low part may be asked for
  pub low_asks : AsksOnes t c.a_low c.b_low
  unfolding needs operation_list
  low_asks = record {
    polynomial = Denotes-knows t c.a_low _ parts.0.0;
    points = Denotes-knows t c.b_low _ parts.1.1.0.0;
    planned = rw (k.calls.reads.grows.plan, k.calls.reads.grows.vars, parts.0.0, parts.1.1.0.0)
        (covers_low k.cut k.full s.plan k.calls.planned);
  }

  -- the high part may be asked for
  pub with_asks : IsSound t → AsksWith t c.a_low c.a_high c.b_high
  with_asks ok =
      let low' : Covers s.plan (sub s.vars (low_part s c h)) = λ f i. rw (← k.calls.reads.grows.plan) (ok.planned f
      (ok.subs c.a_low.0 (low_part s c h) parts.0.0 f (rw k.calls.reads.grows.vars i))) in
      let high = covers_high k.cut k.full s.plan k.calls.planned low' in record {
        low_known = Denotes-knows t c.a_low _ parts.0.0;
        high_known = Denotes-knows t c.a_high _ parts.1.0.0;
        points_known = Denotes-knows t c.b_high _ parts.1.1.1.0.0;
        sum = rw (k.calls.reads.grows.plan, k.calls.reads.grows.vars, parts.0.0, parts.1.0.0, parts.1.1.1.0.0)
            (covers_head s.vars s.plan _ _ high);
        planned = rw (k.calls.reads.grows.plan, k.calls.reads.grows.vars, parts.0.0, parts.1.0.0, parts.1.1.1.0.0)
            (covers_tail s.vars s.plan _ _ high);
      }

  -- in u these handles were found
  abbrev Found : State → List (Handle × Family) → Type 0
  Found u hs = Calls s u (s.vars - c.var) (ones_list s.vars (family s h) (family s set)) (ones_list s.vars (family s h) (family s set))
      (hs ++ parts_of s h set c)

  -- once there is the sum
  pub after_with : {u : State} {with : Handle} → Builds t u (Ok with) (sum_at t c.a_low c.a_high c.b_high)
      → Found u ((with, with_part s c h set) ∷ [])
  after_with one = after_other k.calls (rw (k.calls.reads.grows.vars, parts.0.0, parts.1.0.0, parts.1.1.1.0.0) refl) (part_after k.cut) one

-- ---- what is asked, in other states

-- what is asked may be asked of a state that knows as much and has the same plan
pub with_later : (s t : State) (low high points : Handle) → ((h : ℕ) (f : Family) → s.known h ≡ Some f → t.known h ≡ Some f)
    → t.plan ≡ s.plan → t.vars ≡ s.vars → AsksWith s low high points → AsksWith t low high points
with_later s t low high points known plan vars asks = grind (arith, Knows-denotes, Denotes-family, Denotes-knows)

-- once there is the sum, the points where it is 1 may be asked for
pub sum_asks : {u v : State} {low high points with : Handle} → AsksWith u low high points → Builds u v (Ok with) (sum_at u low high points)
    → AsksOnes v with points
unfolding needs operation_list
sum_asks {u} {v} {low} {high} {points} {with} asks call = grind (arith, Denotes-knows, Grows-knows, Denotes-family, Grows-family)

-- ---- the points: after the halves

-- the second half as a whole, as it was asked in the state t: u is a later one, and v the one after the sum
pub with_after : {t u v w : State} {low high points with : Handle} {r : Result Handle Full} → Grows t u → AsksWith t low high points
    → Builds u v (Ok with) (sum_at u low high points)
    → Gives v w r (ones_of v.vars (family v with) (family v points)) (needs_of v Ones with points.0)
    → Gives u w r (ones_of t.vars (sum_at t low high points) (family t points)) (with_needs t low high points)
unfolding needs operation_list
with_after {t} {u} {v} {w} {low} {high} {points} {with} {r} later asks call last =
    let sum : sum_at u low high points ≡ sum_at t low high points = grind (arith, Grows-family) in
    let with_is : family v with ≡ sum_at t low high points = Denotes-family v with _ call.ok ∙ sum in
    let points_is : family v points ≡ family t points = Grows-family t v points (Grows-trans t u v later call.grows) asks.points_known in
    let list = ones_list u.vars (sum_at t low high points) (family t points) in
    gives_as refl (rw later.vars refl) (found_gives u v w r (ones_of t.vars (sum_at t low high points) (family t points))
    (sum_at t low high points ∷ []) list (found_built (sum_at t low high points) (found_read (Reads-refl u)) sum call)
    (gives_as (rw (with_is, points_is, call.grows.vars, later.vars) refl) (rw (with_is, points_is, call.grows.vars) refl) last))

-- what the halves gave may be finished, and gives the whole: s is the state at the call, v the one after the halves
pub record OnesFinish (s v : State) (h set x y : Handle) (c : Cofactors) (lo hi : Handle) : Type 0 where
  pub asks : AsksOnes v x y
  pub cut : IsCutAt v x y c.var
  pub halves : AreOnes v x y c lo hi
  pub given : {w : State} {r : Result Handle Full} → Gives v w r (ones_of v.vars (family v x) (family v y)) (needs_of v Ones x y.0)
      → Gives s w r (ones_of s.vars (family s h) (family s set)) (needs_of s Ones h set.0)

-- the halves were asked in state t, after the operands were cut
pub ones_finish : {s t v : State} {h set x y : Handle} {c : Cofactors} {lo hi : Handle} → AsksOnes s h set → (x ≡ h) × (y ≡ set)
    → AreCofactors s t x y c → Reads s t → Reads t v
    → Denotes v lo (ones_of t.vars (family t c.a_low) (family t c.b_low)) → Covers v.held (needs_of t Ones c.a_low c.b_low.0)
    → Denotes v hi (ones_of t.vars (sum_at t c.a_low c.a_high c.b_high) (family t c.b_high))
    → Covers v.held (with_needs t c.a_low c.a_high c.b_high) → OnesFinish s v h set x y c lo hi
unfolding needs operation_list
ones_finish {s} {t} {v} {h} {set} {x} {y} {c} {lo} {hi} asks same are one two low low_held high high_held =
    let reads = Reads-trans s t v one two in
    let kx : Knows s x = rw same.0 asks.polynomial in let ky : Knows s y = rw same.1 asks.points in
    let x_is : family v x ≡ family s x = Grows-family s v x reads.grows kx in
    let y_is : family v y ≡ family s y = Grows-family s v y reads.grows ky in
    let a_low = Denotes-family t c.a_low _ are.a_low in let a_high = Denotes-family t c.a_high _ are.a_high in
    let b_low = Denotes-family t c.b_low _ are.b_low in let b_high = Denotes-family t c.b_high _ are.b_high in
    let top = top_later s v x y reads.grows kx ky in
    record {
      asks = grind (arith, Grows-knows);
      cut = grind (arith, top);
      halves = grind arith;
      given = λ {w} {r} all. Gives-after s v w r _ _ reads
          (gives_as (rw (x_is, y_is, same.0, same.1, reads.grows.vars) refl) (rw (x_is, y_is, same.0, same.1, reads.grows.vars) refl) all);
    }

-- ---- the points: the node over the halves, in the state v after them

pub ones_node : {v : State} {x y lo hi : Handle} {c : Cofactors} → IsSound v → AsksOnes v x y → 2 ≤ x.0 → 1 ≤ y.0 → IsCutAt v x y c.var
    → AreOnes v x y c lo hi → LastNode v v c.var lo hi (ones_of v.vars (family v x) (family v y)) (needs_of v Ones x y.0)
unfolding needs operation_list
ones_node {v} {x} {y} {c = c} ok asks varies points cut are =
    let parts = cut_families ok asks.polynomial asks.points cut in let full = are_full ok asks varies points in
    let calls : Calls v v (v.vars - c.var) (ones_list v.vars (family v x) (family v y)) (ones_of v.vars (family v x) (family v y) ∷ []) [] =
    record {
      reads = Reads-refl v;
      le = omega arith;
      planned = covers_one v.vars v.plan _ (covers_self parts full v.plan asks.planned);
      whole = λ u later held. covers_all parts full u.held (covers_head v.vars u.held [] _ held)
          (λ f i. later.held f (are.low_held f i)) (λ f i. later.held f (are.high_held f i));
      here = tt;
    } in last_node c.var calls ok (cut.first, cut.last) refl
    (are.low, IsFamily-ones_of _ v.vars (low_part v c x) _ (IsFamily-low_cofactor _ _) calls.le)
    (are.high, IsFamily-ones_of _ v.vars (with_part v c x y) _ (IsFamily-high_cofactor _ _) calls.le) (ones_of-join parts)

-- ---- the product: results at once, and the other order

pub product_values : {s t : State} (a b : Handle) {r : Result Handle Full} {needed : List Family}
    → Gives s t r (product_of s.vars (family s a) (family s b)) needed
    → IfOk r (λ h. (p : ℕ) → p < 2 ^ s.vars → value (family t h) p ≡ value (family s a) p * value (family s b) p)
product_values a b {r = Ok h} given = grind (arith, Denotes-family, product_by_values)
product_values a b {r = Err e} given = tt

swap_needs : (s : State) (a b : Handle) → Covers (needs_of s Product a b.0) (needs_of s Product b a.0)
unfolding needs operation_list
swap_needs s a b = covers_part s.vars _ _ _ (λ f h. h) (product_list-swap s.vars (family s b) (family s a))

pub swap_planned : (s : State) (a b : Handle) → Covers s.plan (needs_of s Product a b.0) → Covers s.plan (needs_of s Product b a.0)
swap_planned s a b planned f h = planned f (swap_needs s a b f h)

pub swap_given : {s t : State} (a b : Handle) {r : Result Handle Full}
    → Gives s t r (product_of s.vars (family s b) (family s a)) (needs_of s Product b a.0)
    → Gives s t r (product_of s.vars (family s a) (family s b)) (needs_of s Product a b.0)
swap_given {s} a b given = gives_fewer (swap_needs s b a) (gives_as (product_of-swap s.vars (family s b) (family s a)) refl given)

module _ {s : State} (a b : Handle) (ok : IsSound s) (ka : Knows s a) (kb : Knows s b) where
  -- one of the operands is 0 or 1, and r is the result
  at_constant : (r : Handle) → Knows s r → family s r ≡ product_of s.vars (family s a) (family s b)
      → (is_constant (family s a) || is_constant (family s b)) ≡ true
      → Gives s s (Ok r) (product_of s.vars (family s a) (family s b)) (needs_of s Product a b.0)
  unfolding needs operation_list
  at_constant r known is const = rw (product_list-constant s.vars (family s a) (family s b) const)
      (builds_gives s s (Ok r) _ (Builds-known s r _ ok (Knows-denotes s r known ∙ ap Some is)))

  pub at_first : (a.0 ≡ 0) ⊎ ((a.0 ≡ 0 → ⊥) × (b.0 ≡ 1))
      → Gives s s (Ok a) (product_of s.vars (family s a) (family s b)) (needs_of s Product a b.0)
  at_first (inl e) = grind (arith, zero_family s a ok e, product_of-left_none s.vars (family s b), at_constant a ka)
  at_first (inr e) =
      grind (arith, one_family b ok e.1, product_of-right_unit s.vars (family s a) (known_after s a ok ka), or_right, at_constant a ka)

pub at_second : {s : State} (a b : Handle) → IsSound s → Knows s a → Knows s b → (b.0 ≡ 0) ⊎ ((b.0 ≡ 0 → ⊥) × (a.0 ≡ 1))
    → Gives s s (Ok b) (product_of s.vars (family s a) (family s b)) (needs_of s Product a b.0)
at_second a b ok ka kb either = swap_given a b (at_first b a ok kb ka either)

-- ---- the product: one step

-- what a call does; s is the state before it
abbrev pub DoesProduct : State → Handle → Handle → State → Result Handle Full → Type 0
DoesProduct s a b t r = Gives s t r (product_of s.vars (family s a) (family s b)) (needs_of s Product a b.0)

-- a call for polynomials A and B at hand, whose list comes next
module _ {s t : State} {d : ℕ} {all : List Family} {hs : List (Handle × Family)} {x y : Handle} {A B : Family} (rest : List Family)
    (k : Calls s t d all (product_list d A B ++ rest) hs) (l : IsAtHand t d x A) (r : IsAtHand t d y B) where
  product_needs : needs_of t Product x y.0 ≡ working_set s.vars (product_list d A B)
  unfolding needs operation_list
  product_needs = rw (k.reads.grows.vars, l.0, r.0, product_list-narrow d s.vars A B l.1 r.1 k.le) refl

  -- What the call asks is given.
  pub product_asked : Knows t x × (Knows t y × Covers t.plan (needs_of t Product x y.0))
  product_asked = (Denotes-knows t x A l.0, (Denotes-knows t y B r.0, call_planned (product_list d A B) rest k product_needs))

  -- After the call the product is at hand.
  pub product_found : {u : State} {h : Handle} → DoesProduct t x y u (Ok h) → Calls s u d all rest ((h, product_of d A B) ∷ hs)
  product_found does = after_call (product_list d A B) rest k product_needs
      (rw (k.reads.grows.vars, l.0, r.0, product_of-narrow d s.vars A B l.1 r.1 k.le) refl) (IsFamily-product_of d A B) does

-- a call for the sum of two polynomials at hand, which comes next
pub sum_asked : {s t : State} {d : ℕ} {all rest : List Family} {hs : List (Handle × Family)} {x y : Handle} {A B : Family}
    → Calls s t d all (sum_of d A B ∷ rest) hs → IsAtHand t d x A → IsAtHand t d y B
    → record { a : Knows t x; b : Knows t y; planned : IsPlanned t (sum_of t.vars (family t x) (family t y)) }
sum_asked {t = t} {x = x} {y} {A} {B} k l r =
    record { a = Denotes-knows t x A l.0; b = Denotes-knows t y B r.0; planned = combined_planned exactly_one refl k l r }

-- in t the parts of the polynomials P and Q of a and b at their first variable are at hand
pub record ProductCut (s t : State) (a b : Handle) (c : Cofactors) : Type 0 where
  pub cut : AreCutAt s.vars (s.vars - c.var) (family s a) (family s b)
  pub are : AreCofactors s t a b c
  pub calls : Calls s t (s.vars - c.var) (product_list s.vars (family s a) (family s b))
      (product_calls (s.vars - c.var) (family s a) (family s b) (product_of s.vars (family s a) (family s b))) (parts_of s a b c)

varies : (s : State) (h : Handle) → IsSound s → Knows s h → h.0 ≢ 0 → h.0 ≢ 1 → is_constant (family s h) ≡ false
varies s h ok known ne un = grind (arith, not_constant, filled, Knows-denotes)

pub product_cut : {s t : State} {a b : Handle} {c : Cofactors} → IsSound s → Knows s a → Knows s b → a.0 ≢ 0 → b.0 ≢ 1 → b.0 ≢ 0 → a.0 ≢ 1
    → Covers s.plan (needs_of s Product a b.0) → Reads s t → AreCofactors s t a b c → ProductCut s t a b c
unfolding needs operation_list
product_cut {s} {t} {a} {b} {c} ok ka kb an bu bn au planned reads are =
    let cut = cut_families ok ka kb (record { first = are.first; last = are.last; top = are.top }) in
    let vary : (is_constant (family s a) || is_constant (family s b)) ≡ false = rw (varies s a ok ka an au, varies s b ok kb bn bu) refl in
    let parts = cofactors_start reads are planned (product_list_is cut vary) in record {
      cut = cut;
      are = are;
      calls = calls_in_order (also_planned (product_high cut vary s.plan planned) parts) (as_called _ _ _ _) (as_listed _ _ _ _);
    }

module _ {s t : State} {a b : Handle} {c : Cofactors} (k : ProductCut s t a b c) where
  abbrev d : ℕ
  d = s.vars - c.var

  abbrev P : Family
  P = family s a

  abbrev Q : Family
  Q = family s b

  abbrev whole : Family
  whole = product_of s.vars P Q

  abbrev ps : Family
  ps = at_one d d P

  abbrev qs : Family
  qs = at_one d d Q

  -- in u these families are still to be found, and these handles were
  abbrev In : State → List Family → List (Handle × Family) → Type 0
  In u rest hs = Calls s u d (product_list s.vars P Q) rest (hs ++ parts_of s a b c)

  module _ {u : State} {lo : Handle} (one : DoesProduct t c.a_low c.b_low u (Ok lo)) where
    pub after_product : In u (ps ∷ qs ∷ (product_list d ps qs ++ (high_product d P Q ∷ whole ∷ []))) ((lo, low_product d P Q) ∷ [])
    after_product = product_found _ k.calls k.calls.here.0 k.calls.here.1.1.0 one

    module _ {v : State} {a_sum : Handle} (two : Builds u v (Ok a_sum) (sum_of u.vars (family u c.a_low) (family u c.a_high))) where
      pub after_first : In v (qs ∷ (product_list d ps qs ++ (high_product d P Q ∷ whole ∷ []))) ((a_sum, ps) ∷ (lo, low_product d P Q) ∷ [])
      after_first = after_combined exactly_one refl after_product after_product.here.1.0 after_product.here.1.1.0 two

      module _ {w : State} {b_sum : Handle} (three : Builds v w (Ok b_sum) (sum_of v.vars (family v c.b_low) (family v c.b_high))) where
        pub after_second : In w (product_list d ps qs ++ (high_product d P Q ∷ whole ∷ []))
            ((b_sum, qs) ∷ (a_sum, ps) ∷ (lo, low_product d P Q) ∷ [])
        after_second = after_combined exactly_one refl after_first after_first.here.1.1.1.1.0 after_first.here.1.1.1.1.1.0 three

        module _ {x : State} {both : Handle} (four : DoesProduct w a_sum b_sum x (Ok both)) where
          pub after_both : In x (high_product d P Q ∷ whole ∷ [])
              ((both, product_of d ps qs) ∷ (b_sum, qs) ∷ (a_sum, ps) ∷ (lo, low_product d P Q) ∷ [])
          after_both = product_found _ after_second after_second.here.1.0 after_second.here.0 four

          module _ {y : State} {hi : Handle} (five : Builds x y (Ok hi) (sum_of x.vars (family x lo) (family x both))) where
            pub after_upper : In y (whole ∷ []) ((hi, high_product d P Q) ∷ (both, product_of d ps qs) ∷ (b_sum, qs) ∷ (a_sum, ps)
                ∷ (lo, low_product d P Q) ∷ [])
            after_upper = after_combined exactly_one refl after_both after_both.here.1.1.1.0 after_both.here.0 five

            pub product_node : IsSound y → LastNode s y c.var lo hi whole (needs_of s Product a b.0)
            unfolding needs operation_list
            product_node sound = let at = after_upper.here in
                last_node c.var after_upper sound (k.are.first, k.are.last) refl at.1.1.1.1.0 at.0 (product_of-join k.cut)
