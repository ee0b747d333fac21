-- A family at its node: its parts, the calls on them, its greatest number and its value at a point; the points that a monomial divides,
-- and the product with a variable.
use Rattle.std.proofs.Common.{◌≡◌, ◌≢◌, ℕ, suc, ◌+◌, ◌-◌, ◌*◌, ◌%◌, ◌^◌, ◌<◌, ◌≤◌, ◌↔◌, Bool, true, false, not, [], ◌∷◌, Ok, refl, sym, ◌∙◌}
use Rattle.std.proofs.Common.{ap, arith, unwrap_or, nat_eq, cond, Some, Result, Err, IfOk, mul-one, mul-zero}
use Rattle.std.proofs.lemmas.Bool.{cases_eq}
use Rattle.std.proofs.lemmas.Bool.Decides.{nat_tests}
use Rattle.std.proofs.lemmas.Grind.{common_steps}
use Rattle.std.proofs.lemmas.Nat.{pow_pos}
use Rattle.std.proofs.Math.Pow.{pow_mono}
use mathlib.Core.Bool.{beq}
use Rattle.lattice.specs.Words.{ones_at, Family, IsFamily, divides, sum_of, value, IsGreatest, join, level, low_cofactor, high_cofactor}
use Rattle.lattice.specs.Words.{product_of, variable, answer, operation_list, needs}
use Rattle.lattice.specs.declared.limits.TheConstants.{MAX_VARS}
use Rattle.lattice.specs.declared.op.Op.TheVariants.{TimesVar}
use Rattle.lattice.proofs.Diagrams.{sub-join_high, sub-join_low, level-below, weight_is, IsFamily-nil, IsFamily-single, IsFamily-join_suc}
use Rattle.lattice.proofs.Polynomials.{below_bound, value-lt, value-nil, value-one, IsFamily_wider, product_by_values, value-single, twice}
use Rattle.node_store.specs.Stores.{State, Knows, Denotes, family, node_family, IsNode, IsSound, IsPlanned, Grows, Reads, Builds}
use Rattle.node_store.specs.Stores.{AreOperands, IsResult}
use Rattle.node_store.specs.declared.store.Full.{Full}
use Rattle.node_store.specs.declared.store.Handle.{Handle}
use Rattle.node_store.specs.declared.store.Node.{Node}
use Rattle.node_store.proofs.StoreLaws.{Grows-refl, Grows-family, Grows-knows, Grows-node, Grows-node_family, Reads-refl, Reads-trans}
use Rattle.node_store.proofs.StoreLaws.{node_level, zero_family, MayGrow, one_family, Builds-grown, Builds-known, Knows-denotes, constant}
use Rattle.node_store.proofs.StoreLaws.{known_after, builds_gives, Builds-after, Denotes-family, gives_builds, kept_given, then_call}
use Rattle.bool_poly.proofs.Families.{IsFamily-kept, ones_at-without, ones_at-with, ones_at-zero, ones_at-before}
use Rattle.bool_poly.proofs.Families.{raised_is, at_one_after, product_after, both_is, greatest_join, greatest_unit, value_cut}

-- whether one of two values is 1
odd : (b c : Bool) (x y : ℕ) → x < 2 → y < 2 → (b ≡ true) ↔ (x ≡ 1) → (c ≡ true) ↔ (y ≡ 1) → (not (beq b c) ≡ true) ↔ ((x + y) % 2 ≡ 1)
odd b c x y u v l h = grind (arith, common_steps)

-- n is the node of a: s is the state at the call, t one after the node was asked for
pub record AtNode (s t : State) (a : Handle) (n : Node) : Type 0 where
  pub reads : Reads s t
  pub node : IsNode t n
  pub last : n.var ≤ s.vars
  pub small : s.vars ≤ MAX_VARS
  pub low_after : IsFamily (s.vars - n.var) (family t n.lo)
  pub high_after : IsFamily (s.vars - n.var) (family t n.hi)
  pub whole : family s a ≡ join (s.vars - n.var) (family t n.lo) (family t n.hi)
  pub top : level s.vars (family s a) ≡ suc (s.vars - n.var)

-- r is the state after the node was asked for, and t a later one
pub at_node_later : {s r t : State} {a : Handle} {n : Node} → IsSound t → Reads s r → Reads r t → IsNode r n
    → node_family r n ≡ family s a → AtNode s t a n
at_node_later {s} {r} {t} {a} {n} ok found later node is =
    let reads : Reads s t = Reads-trans s r t found later in
    let here : IsNode t n = Grows-node r t n later.grows node in
    let whole : family s a ≡ node_family t n = sym (Grows-node_family r t n later.grows node ∙ is) in
    grind (arith, node_level s t n (family s a) ok here reads.grows.vars whole)

pub at_node : {s t : State} {a : Handle} {n : Node} → IsSound t → Reads s t → IsNode t n → node_family t n ≡ family s a → AtNode s t a n
at_node {s} {t} ok reads node is = at_node_later ok reads (Reads-refl t) node is

module _ {s t : State} {a : Handle} {n : Node} (at : AtNode s t a n) where
  abbrev d : ℕ
  d = s.vars - n.var

  abbrev L : Family
  L = family t n.lo

  abbrev H : Family
  H = family t n.hi

  pub less : d < s.vars
  less = omega (arith, at.node.parts.first, at.last)

  -- the calls on the parts are on fewer variables
  part_call : {u : State} (x : Handle) → Grows t u → Knows t x → IsFamily d (family t x)
      → (level u.vars (family u x) < level s.vars (family s a)) × Knows u x
  part_call {u} x later known after =
      grind (arith, level-below d s.vars (family t x) after (omega arith), Grows-family t u x later known, Grows-knows t u x later known)

  pub low_call : (level t.vars (family t n.lo) < level s.vars (family s a)) × Knows t n.lo
  low_call = part_call n.lo (Grows-refl t) at.node.parts.lo_known at.low_after

  pub high_call : {u : State} → Grows t u → (level u.vars (family u n.hi) < level s.vars (family s a)) × Knows u n.hi
  high_call later = part_call n.hi later at.node.parts.hi_known at.high_after

  -- the weight of the variable, as it is computed
  module _ {k : ℕ} (e : k ≡ t.vars) where
    abbrev w : ℕ
    w = 1 * 2 ^ (k - n.var) % 18446744073709551616

    pub weight : w ≡ 2 ^ d
    weight = grind (arith, weight_is)

    pub node_greatest : {r : ℕ} → IsGreatest (family t n.hi) r → IsGreatest (family s a) (w + r)
    node_greatest {r} top = rw (at.whole, weight) (greatest_join d L H r at.low_after top)

    pub node_fits : {r : ℕ} → IsGreatest (family t n.hi) r → w + r < 2 ^ 64
    node_fits {r} top = grind (arith, below_bound, pow_mono)

    -- at a point without the variable
    pub node_without : (b : Bool) (p : ℕ) → divides w p ≡ false → (b ≡ true) ↔ (value L p ≡ 1) → (b ≡ true) ↔ (value (family s a) p ≡ 1)
    node_without b p no' low' = rw (at.whole, value_cut d L H p at.high_after, ← weight, no') low'

    -- at a point with the variable
    pub node_with : (b c : Bool) (p : ℕ) → divides w p ≡ true → (b ≡ true) ↔ (value L p ≡ 1) → (c ≡ true) ↔ (value H p ≡ 1)
        → (not (beq b c) ≡ true) ↔ (value (family s a) p ≡ 1)
    node_with b c p yes' low' high' = rw (at.whole, value_cut d L H p at.high_after, ← weight, yes')
        (odd b c (value L p) (value H p) (value-lt L p) (value-lt H p) low' high')

-- ---- a family that is planned, by its parts at var

pub record IsSplit (s : State) (var : ℕ) (F L H : Family) : Type 0 where
  pub first : 1 ≤ var
  pub last : var ≤ s.vars
  pub low_after : IsFamily (s.vars - var) L
  pub high_after : IsFamily (s.vars - var) H
  pub whole : F ≡ join (s.vars - var) L H
  pub planned : IsPlanned s F

-- in a later state
module _ {s t : State} {var : ℕ} {F L H : Family} (split : IsSplit s var F L H) (reads : Reads s t) where
  pub low_planned : {X : Family} → X ≡ L → IsPlanned t X
  low_planned same = grind (arith, sub-join_low)

  pub high_planned : {X : Family} → X ≡ H → IsPlanned t X
  high_planned same = grind (arith, sub-join_high)

  pub split_grows : {lo hi : Handle} → Denotes t lo L → Denotes t hi H → MayGrow s t var lo hi F
  split_grows l h = grind arith

-- ---- an operation that acts on the parts of the node one by one, by the number of variables

pub record ActsOnParts (op : ℕ → Family → Family) (s t : State) (a : Handle) (n : Node) : Type 0 where
  pub at : AtNode s t a n
  pub split : IsSplit s n.var (op s.vars (family s a)) (op s.vars (family t n.lo)) (op s.vars (family t n.hi))

module _ {op : ℕ → Family → Family} {s t : State} {a : Handle} {n : Node} (acts : ActsOnParts op s t a n) where
  open acts use {at, split}

  pub lows_planned : IsPlanned t (op t.vars (family t n.lo))
  lows_planned = low_planned split at.reads (rw at.reads.grows.vars refl)

  -- u is the state after the low part
  module _ {u : State} {lo : Handle} (low' : Builds t u (Ok lo) (op t.vars (family t n.lo))) where
    pub after_low : Reads s u
    after_low = then_call at.reads low'

    high_is : family u n.hi ≡ family t n.hi
    high_is = Grows-family t u n.hi low'.grows at.node.parts.hi_known

    pub highs_planned : IsPlanned u (op u.vars (family u n.hi))
    highs_planned = high_planned split after_low (rw (after_low.grows.vars, high_is) refl)

    lo_is : Denotes u lo (op s.vars (family t n.lo))
    lo_is = rw at.reads.grows.vars at low'.ok

    -- where both children are one
    pub one_grown : n.hi.0 ≡ n.lo.0 → MayGrow s u n.var lo lo (op s.vars (family s a))
    one_grown same = split_grows split after_low lo_is (rw (ap (λ i. unwrap_or (t.known i) []) same) lo_is)

    -- v is the state after the high part
    pub both_grown : {v : State} {hi : Handle} → Builds u v (Ok hi) (op u.vars (family u n.hi))
        → MayGrow s v n.var lo hi (op s.vars (family s a))
    both_grown high' = split_grows split (then_call after_low high') (high'.grows.known lo.0 _ lo_is)
        (rw (after_low.grows.vars, high_is) at high'.ok)

-- ---- the constants

pub constant_value : (s : State) (a : Handle) (p : ℕ) → IsSound s → a.0 < 2 → (not (nat_eq a.0 0) ≡ true) ↔ (value (family s a) p ≡ 1)
constant_value s a p ok small = grind (arith, nat_tests, zero_family s a ok, one_family a ok, value-nil p, value-one p, cases_eq a.0 0)

pub constant_greatest : (s : State) (a : Handle) → IsSound s → a.0 < 2 → a.0 ≢ 0 → IsGreatest (family s a) 0
constant_greatest s a ok small some = rw (one_family a ok (omega arith)) greatest_unit

-- ---- the points of a set that a monomial divides

-- the monomial 1
pub above_one : (s : State) (set : Handle) {m : ℕ} → IsSound s → Knows s set → m ≡ 0 → Builds s s (Ok set) (ones_at s.vars m (family s set))
above_one s set ok known zero = grind (arith, ones_at-zero, known_after, Builds-known, Knows-denotes)

-- no points
nothing : {s t : State} {f : Family} → IsSound t → Reads s t → f ≡ [] → Builds s t (Ok (record { 0 = 0 })) f
nothing {s} {t} {f} ok reads none = rw none (Builds-grown s t (record { 0 = 0 }) [] ok reads.grows reads.quiet ok.empty)

pub above_constant : {s t : State} (set : Handle) {m : ℕ} → IsSound s → IsSound t → Reads s t → set.0 < 2 → m ≢ 0
    → Builds s t (Ok (record { 0 = 0 })) (ones_at s.vars m (family s set))
above_constant {s} {t} set {m} ok okt reads small some =
    nothing okt reads (ones_at-before s.vars 0 m (family s set) (constant s set ok small) (omega (arith, some)))

module _ {s t : State} {set : Handle} {n : Node} (at : AtNode s t set n) {k : ℕ} (e : k ≡ t.vars) (m : ℕ) where
  abbrev v : ℕ
  v = 1 * 2 ^ (k - n.var) % 18446744073709551616

  after : (m : ℕ) (f : Family) → IsFamily (s.vars - n.var) f → IsFamily (s.vars - n.var) (ones_at s.vars m f)
  after m f ff = IsFamily-kept s.vars _ f _ ff (omega arith)

  -- the monomial has a variable before the node's
  pub above_before : IsSound t → v ≤ m → v ≤ m - v → Builds s t (Ok (record { 0 = 0 })) (ones_at s.vars m (family s set))
  above_before ok le more = nothing ok at.reads (rw at.whole (ones_at-before s.vars (suc (s.vars - n.var)) m _
      (IsFamily-join_suc _ _ _ at.low_after at.high_after) (omega (arith, twice (s.vars - n.var), weight at e, le, more))))

  -- the monomial has the node's variable first
  module _ (planned : IsPlanned s (ones_at s.vars m (family s set))) (le : v ≤ m) (top : m - v < v) where
    with_split : IsSplit s n.var (ones_at s.vars m (family s set)) [] (ones_at s.vars (m - v) (family t n.hi))
    with_split =
        let sum : 2 ^ (s.vars - n.var) + (m - v) ≡ m = omega (arith, weight at e, le) in
        let whole = ones_at-with s.vars _ _ _ at.low_after at.high_after (less at) (m - v) (omega (arith, weight at e, top)) in
        grind (arith, IsFamily-nil, after (m - v) _ at.high_after, rw sum at whole)

    pub with_planned : IsPlanned t (ones_at t.vars (m - v) (family t n.hi))
    with_planned = high_planned with_split at.reads (rw at.reads.grows.vars refl)

    pub with_grown : {u : State} {hi : Handle} → IsSound u → Builds t u (Ok hi) (ones_at t.vars (m - v) (family t n.hi))
        → MayGrow s u n.var (record { 0 = 0 }) hi (ones_at s.vars m (family s set))
    with_grown ok high' = split_grows with_split (then_call at.reads high') ok.empty (rw at.reads.grows.vars at high'.ok)

  -- the node's variable is before those of the monomial
  pub without : IsPlanned s (ones_at s.vars m (family s set)) → m < v → ActsOnParts (λ v f. ones_at v m f) s t set n
  without planned small =
      let whole = ones_at-without s.vars _ _ _ at.low_after at.high_after (less at) m (omega (arith, weight at e, small)) in
      grind (arith, at, after m _ at.low_after, after m _ at.high_after, whole)

-- ---- the product with a variable, by the number of variables
abbrev pub times : ℕ → ℕ → Family → Family
times var n f = product_of n f (variable n var ∷ [])

-- the product after reads
pub times_after : {s t u : State} (a : Handle) (var : ℕ) {r : Result Handle Full} → Reads s t → Knows s a
    → Builds t u r (times var t.vars (family t a)) → Builds s u r (times var s.vars (family s a))
times_after {s} {t} {u} a var {r} reads known builds = grind (arith, Grows-family, Builds-after)

-- the values
pub times_values : {s t : State} (a : Handle) (var : ℕ) {r : Result Handle Full} → Builds s t r (times var s.vars (family s a))
    → IfOk r (λ h. (p : ℕ) → p < 2 ^ s.vars → value (family t h) p ≡ cond (divides (variable s.vars var) p) (value (family s a) p) 0)
times_values a var {r = Ok h} built = grind (arith, Denotes-family, product_by_values, value-single, mul-one, mul-zero)
times_values a var {r = Err e} built = tt

-- no variable of a is before var: s is the state at the call, t the one after the parts were found
module _ {s t : State} (a low high : Handle) {var : ℕ} (first : 1 ≤ var) (last : var ≤ s.vars)
    (after : IsFamily (suc (s.vars - var)) (family s a)) (planned : IsPlanned s (times var s.vars (family s a))) (reads : Reads s t)
    (l : Denotes t low (low_cofactor (s.vars - var) (family s a))) (h : Denotes t high (high_cofactor (s.vars - var) (family s a))) where
  abbrev S : Family
  S = sum_of s.vars (low_cofactor (s.vars - var) (family s a)) (high_cofactor (s.vars - var) (family s a))

  raised_split : IsSplit s var (times var s.vars (family s a)) [] S
  raised_split =
      let whole = raised_is s.vars (s.vars - var) (family s a) after (omega (arith, first, last)) in
      grind (arith, IsFamily-nil (s.vars - var), at_one_after (s.vars - var) s.vars (family s a) (omega arith), whole)

  sum_is : sum_of t.vars (family t low) (family t high) ≡ S
  sum_is = rw (reads.grows.vars, Denotes-family t low _ l, Denotes-family t high _ h) refl

  pub sum_planned : IsPlanned t (sum_of t.vars (family t low) (family t high))
  sum_planned = high_planned raised_split reads sum_is

  -- u is the state after the sum
  pub raised_grown : {u : State} {with : Handle} → IsSound u → Builds t u (Ok with) (sum_of t.vars (family t low) (family t high))
      → MayGrow s u var (record { 0 = 0 }) with (times var s.vars (family s a))
  raised_grown ok sum' = split_grows raised_split (then_call reads sum') ok.empty (sum'.ok ∙ ap Some sum_is)

-- kept results

times_operands : (s : State) (a : Handle) (var : ℕ) → Knows s a → 1 ≤ var → var ≤ s.vars → AreOperands s TimesVar a var
times_operands s a var known first last = grind arith

pub times_kept : {s t : State} (a : Handle) {var : ℕ} {r : Handle} → Knows s a → 1 ≤ var → var ≤ s.vars → Reads s t
    → IsResult t TimesVar a var r → Builds s t (Ok r) (times var s.vars (family s a))
unfolding answer needs operation_list
times_kept {s} a {var} known first last reads kept = gives_builds (kept_given (times_operands s a var known first last) reads kept)

pub times_result : {s t : State} (a : Handle) {var : ℕ} {r : Handle} → Knows s a → 1 ≤ var → var ≤ s.vars
    → Builds s t (Ok r) (times var s.vars (family s a)) → IsResult t TimesVar a var r
unfolding answer needs operation_list
times_result {s} {t} a {var} {r} known first last built =
    grind (arith, times_operands s a var known first last, builds_gives s t (Ok r) (times var s.vars (family s a)) built)

-- the node's variable is at var or behind it: t is the state after it was asked for
pub node_after : {s t : State} {a : Handle} {n : Node} → AtNode s t a n → Knows s a → {var : ℕ} → var ≤ n.var
    → IsFamily (suc (t.vars - var)) (family t a)
node_after {s} {t} {a} {n} at known {var} le =
    rw (Grows-family s t a at.reads.grows known, at.reads.grows.vars, at.whole) (IsFamily_wider (suc (s.vars - n.var)) _ _
    (IsFamily-join_suc _ _ _ at.low_after at.high_after) (omega (arith, le)))

-- its variable is before var
pub times_acts : {s t : State} {a : Handle} {n : Node} → AtNode s t a n → {var : ℕ} → var ≤ s.vars → n.var < var
    → IsPlanned s (times var s.vars (family s a)) → ActsOnParts (times var) s t a n
times_acts {s} {t} {a} {n} at {var} last before planned =
    let d : ℕ = s.vars - n.var in let e : ℕ = s.vars - var in
    let more : 2 ^ suc e ≤ 2 ^ d = pow_mono (omega (arith, before, last)) in
    let X_after : IsFamily d (2 ^ e ∷ []) = IsFamily-single d (2 ^ e) (omega (arith, more, twice e, pow_pos e)) in
    let small : d ≤ s.vars = omega arith in
    let whole = both_is s.vars d _ _ _ at.low_after at.high_after X_after (less at) in
    grind (arith, at, product_after d s.vars _ _ at.low_after X_after small, product_after d s.vars _ _ at.high_after X_after small, whole)
