-- What callers use of the laws of stores: known handles and their families, calls one after the other, grown nodes, and plans that
-- have every family.
use Rattle.std.proofs.Common.{◌≡◌, ◌≢◌, ℕ, zero, suc, ◌-◌, ◌<◌, ◌≤◌, ◌^◌, inl, inr, Bool, is_some, true, false, map, Result, Ok, Err, IsErr}
use Rattle.std.proofs.Common.{List, [], ◌∷◌, ◌++◌, length, unwrap_or, refl, sym, ◌∙◌, ap, ap₂, arith, append_assoc, rules}
use Rattle.std.specs.List.{All}
use Rattle.std.proofs.lemmas.List.{append-nil}
use Rattle.std.proofs.lemmas.List.Elements.{All-head, All-tail, All-weaker}
use Rattle.std.proofs.lemmas.Bool.{cases_Bool}
use Rattle.std.proofs.lemmas.Result.{on_ok_weaker, on_err_weaker}
use Rattle.std.proofs.Props.{props}
use Rattle.lattice.specs.Words.{Family, IsFamily, Covers, has, family_where, numbers_below, power, combine, Has, join, low_cofactor}
use Rattle.lattice.specs.Words.{high_cofactor, level, sub, takes_family, takes_variable, answer, IsAllowed, working_set}
use Rattle.lattice.specs.declared.op.Op.{Op}
use Rattle.lattice.specs.declared.op.Op.TheVariants.{Least, Leads, TimesVar}
use Rattle.lattice.proofs.Diagrams.{IsFamily-nil, IsFamily-unit, level-below, level-join, sub-join_self, covers_append}
use Rattle.lattice.proofs.Diagrams.{covers_nil, covers_sub, covers_one, IsLegal-prop, Has-nil, Has-cases, Has-head, Has-tail}
use Rattle.lattice.proofs.Diagrams.{IsFamily-single, power_whole, join_cofactors_suc, IsFamily-power, Has-all_of, working_set_members}
use Rattle.lattice.proofs.Diagrams.{covered_length, working_set_is_distinct}
use Rattle.lattice.proofs.Polynomials.{family_where_has, IsFamily-combine, IsFamily-low_cofactor, IsFamily-high_cofactor}
use Rattle.node_store.specs.Stores.{State, Knows, family, Denotes, node_family, IsNode, IsSound, Adds, Grows, IsFull, Reads, Gives, Builds}
use Rattle.node_store.specs.Stores.{AreParts, second, AreOperands, IsResult, needs_of, IsPlanned}
use Rattle.node_store.specs.Plain.{plain_state}
use Rattle.node_store.specs.AnyFamily.{every_family, MayHoldAny}
use Rattle.node_store.specs.declared.store.Handle.{Handle}
use Rattle.node_store.specs.declared.store.Node.{Node}
use Rattle.node_store.specs.declared.store.Full.{Full}
-- a family that is there is what it is taken for
pub use Rattle.node_store.specs.PlainLaws.{some_is}

-- what is true of every store has one proof at most
pub IsSound-prop : (s : State) → IsProp (IsSound s)
IsSound-prop s = hlevel (IsLegal-prop, props)

-- ---- known handles

-- what is known denotes its family
pub Knows-denotes : (s : State) (h : Handle) → Knows s h → Denotes s h (family s h)
Knows-denotes s h k = some_is (s.known h.0) k

-- a handle that denotes a family is known
pub Denotes-knows : (s : State) (h : Handle) (f : Family) → Denotes s h f → Knows s h
Denotes-knows s h f e = ap is_some e

-- a handle that denotes a family has it
pub Denotes-family : (s : State) (h : Handle) (f : Family) → Denotes s h f → family s h ≡ f
Denotes-family s h f e = ap (λ o. unwrap_or o []) e

-- the handle 0 has the empty family
pub zero_family : (s : State) (h : Handle) → IsSound s → h.0 ≡ 0 → family s h ≡ []
zero_family s h ok e = cc ok.empty

-- the handle of the family whose one member is 0
pub one_family : {s : State} (h : Handle) → IsSound s → h.0 ≡ 1 → family s h ≡ 0 ∷ []
one_family h ok e = cc ok.unit

-- a handle other than 0 has a family with a member
pub filled : (s : State) (h : Handle) → IsSound s → Knows s h → h.0 ≢ 0 → family s h ≢ []
filled s h ok k ne e = ne (ok.one_to_one h.0 0 [] (cc (some_is (s.known h.0) k)) ok.empty)

-- the first variable of a node's family is the node's
pub node_level : (s t : State) (n : Node) (f : Family) → IsSound t → IsNode t n → t.vars ≡ s.vars → f ≡ node_family t n
    → level s.vars f ≡ suc (s.vars - n.var)
node_level s t n f ok node same is = rw (is, ← same) (search (level-join, filled, node.parts, arith))

-- a handle below 2 is a constant
pub constant : (s : State) (h : Handle) → IsSound s → h.0 < 2 → IsFamily 0 (family s h)
constant s h ok small = grind (arith, IsFamily-nil 0, IsFamily-unit 0, ok.empty, ok.unit)

-- a constant has no first variable
pub level_constant : (s : State) (h : Handle) → IsSound s → h.0 < 2 → level s.vars (family s h) ≡ 0
level_constant s h ok small = omega (arith, level-below 0 s.vars (family s h) (constant s h ok small) (omega arith))

-- a known family is one over the variables of the store
pub known_after : (s : State) (h : Handle) → IsSound s → Knows s h → IsFamily s.vars (family s h)
known_after s h ok k = ok.families h.0 (family s h) (Knows-denotes s h k)

-- a working set that is held fits into the slots
pub fits : (s : State) (n : ℕ) (list : List Family) → IsSound s → Covers s.held (working_set n list)
    → length (working_set n list) ≤ s.capacity
fits s n list ok held = omega (arith, covered_length (working_set n list) s.held (working_set_is_distinct n list) held, ok.room)

-- ---- later states

-- a known handle denotes its family later too
pub Grows-denotes : (s t : State) (h : Handle) → Grows s t → Knows s h → Denotes t h (family s h)
Grows-denotes s t h grows k = grows.known h.0 (family s h) (Knows-denotes s h k)

-- and keeps its family
pub Grows-family : (s t : State) (h : Handle) → Grows s t → Knows s h → family t h ≡ family s h
Grows-family s t h grows k = Denotes-family t h (family s h) (Grows-denotes s t h grows k)

-- which has as many members
pub length-later : (s t : State) (h : Handle) → Grows s t → Knows s h → length (family t h) ≡ length (family s h)
length-later s t h grows known = ap length (Grows-family s t h grows known)

-- what is known stays known
pub Grows-knows : (s t : State) (h : Handle) → Grows s t → Knows s h → Knows t h
Grows-knows s t h grows k = ap is_some (Grows-denotes s t h grows k)

-- what is known of handles stays known
pub All_known-later : (s t : State) (hs : List Handle) → Grows s t → All (Knows s) hs → All (Knows t) hs
All_known-later s t hs grows known = All-weaker (Knows s) (Knows t) (λ h. Grows-knows s t h grows) hs known

-- and they keep their families
pub families_later : (s t : State) (hs : List Handle) → Grows s t → All (Knows s) hs → map (family t) hs ≡ map (family s) hs
families_later s t [] grows known = refl
families_later s t (h ∷ hs) grows known = ap₂ (λ (x : Family) (xs : List Family). x ∷ xs)
    (Grows-family s t h grows (All-head (Knows s) h hs known)) (families_later s t hs grows (All-tail (Knows s) h hs known))

-- each state comes after itself
pub Grows-refl : (s : State) → Grows s s
Grows-refl s = let h : Adds s.history s.history = ([], sym (append-nil s.history)) in search arith

-- a state after a later one comes after the first
pub Grows-trans : (s t u : State) → Grows s t → Grows t u → Grows s u
Grows-trans s t u one two = grind (arith, append_assoc)

-- a later refusal is one on the whole way
pub IsFull-later : (s t u : State) → Grows s t → IsFull t u → IsFull s u
IsFull-later s t u grows full = omega arith

-- a node stays one, for the same family
pub Grows-node : (s t : State) (n : Node) → Grows s t → IsNode s n → IsNode t n
Grows-node s t n grows node = grind (arith, Grows-knows, Grows-family)

-- a node keeps its family
pub Grows-node_family : (s t : State) (n : Node) → Grows s t → IsNode s n → node_family t n ≡ node_family s n
Grows-node_family s t n grows node = grind (arith, Grows-family)

second_same : (s t : State) (op : Op) (a : Handle) (b : ℕ) → Grows s t → AreOperands s op a b → second t op b ≡ second s op b
second_same s t op a b grows is = grind (arith, cases_Bool (takes_family op), Grows-family s t (record { 0 = b }))

Grows-operands : (s t : State) (op : Op) (a : Handle) (b : ℕ) → Grows s t → AreOperands s op a b → AreOperands t op a b
Grows-operands s t op a b grows is = grind (arith, Grows-knows s t a, Grows-knows s t (record { 0 = b }))

-- a result stays one
pub Grows-result : (s t : State) (op : Op) (a : Handle) (b : ℕ) (r : Handle) → Grows s t → IsResult s op a b r → IsResult t op a b r
Grows-result s t op a b r grows is = grind (arith, Grows-family, second_same, Grows-operands)

-- ---- calls one after the other

-- no call at all reads
pub Reads-refl : (s : State) → Reads s s
Reads-refl s = search Grows-refl

-- two reads in a row are one
pub Reads-trans : (s t u : State) → Reads s t → Reads t u → Reads s u
Reads-trans s t u one two = search (Grows-trans, ◌∙◌, one, two)

-- two reads in a row are one
pub then_reads : {s t u : State} → Reads s t → Reads t u → Reads s u
then_reads one two = Reads-trans _ _ _ one two

-- a call that gave a handle refused nothing
pub Gives-reads : (s t : State) (h : Handle) (f : Family) (needed : List Family) → Gives s t (Ok h) f needed → Reads s t
Gives-reads s t h f needed is = assumption

-- a call that gave a handle reads
pub reads_one : {s t : State} {h : Handle} {f : Family} {needed : List Family} → Gives s t (Ok h) f needed → Reads s t
reads_one is = assumption

-- a call that gave a handle after reads reads
pub then_call : {s t u : State} {h : Handle} {f : Family} {needed : List Family} → Reads s t → Gives t u (Ok h) f needed → Reads s u
then_call one two = then_reads one (reads_one two)

-- a handle in a later state
pub Builds-grown : (s t : State) (h : Handle) (f : Family) → IsSound t → Grows s t → t.refusals ≡ s.refusals → Denotes t h f
    → Builds s t (Ok h) f
Builds-grown s t h f ok grows quiet is = grind arith

-- a handle that was known already
pub Builds-known : (s : State) (h : Handle) (f : Family) → IsSound s → Denotes s h f → Builds s s (Ok h) f
Builds-known s h f ok is = Builds-grown s s h f ok (Grows-refl s) refl is

-- what was given after reads was given on the whole way
pub Gives-after : (s t u : State) (r : Result Handle Full) (f : Family) (needed : List Family) → Reads s t → Gives t u r f needed
    → Gives s u r f needed
Gives-after s t u r f needed one two = search (Grows-trans, on_ok_weaker, on_err_weaker, IsFull-later, one, two, ◌∙◌)

-- what was built after reads was built on the whole way
pub Builds-after : (s t u : State) (r : Result Handle Full) (f : Family) → Reads s t → Builds t u r f → Builds s u r f
Builds-after s t u r f one two = Gives-after s t u r f (sub s.vars f) one (rw (← one.grows.vars) two)

-- an error that was passed on
pub Gives-failed : (s t : State) (r : Result Handle Full) (e : Full) (f g : Family) (needed more : List Family) → IsErr r
    → Gives s t (Err e) f needed → Gives s t r g more
Gives-failed s t (Ok h) e f g needed more err is = cc
Gives-failed s t (Err x) e f g needed more err is = assumption

-- an error that was passed on after reads
pub failed_after : (s t u : State) (r : Result Handle Full) (e : Full) (f g : Family) (needed more : List Family) → IsErr r
    → Reads s t → Gives t u (Err e) f needed → Gives s u r g more
failed_after s t u r e f g needed more err one two = Gives-failed s u r e f g needed more err (Gives-after s t u (Err e) f needed one two)

-- an error of a call after reads is passed on
pub failed : {s t u : State} {r : Result Handle Full} {e : Full} {f g : Family} {needed more : List Family} → IsErr r → Reads s t
    → Gives t u (Err e) f needed → Gives s u r g more
failed err reads given = failed_after _ _ _ _ _ _ _ _ _ err reads given

-- the same call, by equal families
pub gives_as : {s t : State} {r : Result Handle Full} {f g : Family} {needed more : List Family} → f ≡ g → needed ≡ more
    → Gives s t r f needed → Gives s t r g more
gives_as same all given = rw (same, all) at given

-- what holds less than was needed
pub gives_fewer : {s t : State} {r : Result Handle Full} {f : Family} {needed less : List Family} → Covers needed less
    → Gives s t r f needed → Gives s t r f less
gives_fewer {r = Ok h} fewer given = search (given, given.held, fewer, rules)
gives_fewer {r = Err e} fewer given = assumption

-- a call that needs its result alone holds the result's diagram
pub gives_builds : {s t : State} {r : Result Handle Full} {f : Family} → Gives s t r f (working_set s.vars (f ∷ [])) → Builds s t r f
gives_builds {s} {t} {r} {f} given = gives_fewer (covers_sub s.vars (f ∷ []) f (Has-head f [])) given

-- a call that needs its result's diagram alone gives it by a list of one family
pub builds_gives : (s t : State) (r : Result Handle Full) (f : Family) → Builds s t r f → Gives s t r f (working_set s.vars (f ∷ []))
builds_gives s t r f is = gives_fewer (covers_one s.vars (sub s.vars f) f (λ k i. i)) is

-- ---- what calls found

-- calls that gave handles led from s to t, and t holds what they needed
pub record Found (s t : State) (list : List Family) : Type 0 where
  pub reads : Reads s t
  pub held : Covers t.held (working_set s.vars list)

-- before the first call
pub found_start : (s : State) → Found s s []
found_start s = search (Reads-refl, covers_nil)

-- after one call
pub found_one : (s t : State) (h : Handle) (f : Family) (list : List Family) → Gives s t (Ok h) f (working_set s.vars list) → Found s t list
found_one s t h f list is = assumption

-- some calls after others
pub found_after : (s t u : State) (xs ys : List Family) → Found s t xs → Found t u ys → Found s u (xs ++ ys)
found_after s t u xs ys one two = record {
  reads = Reads-trans s t u one.reads two.reads;
  held = covers_append s.vars u.held xs ys (λ f i. two.reads.grows.held f (one.held f i)) (rw one.reads.grows.vars at two.held);
}

-- a last call after others
pub found_gives : (s t u : State) (r : Result Handle Full) (f : Family) (xs ys : List Family) → Found s t xs
    → Gives t u r f (working_set t.vars ys) → Gives s u r f (working_set s.vars (xs ++ ys))
found_gives s t u (Ok h) f xs ys one two = let both = found_after s t u xs ys one (found_one t u h f ys two) in search (both, two, rules)
found_gives s t u (Err e) f xs ys one two = failed refl one.reads two

-- calls that need nothing
pub found_read : {s t : State} → Reads s t → Found s t []
found_read {s} {t} reads = grind (arith, covers_nil)

-- one more call that needs its result's diagram alone, after others
pub found_built : {s t u : State} {h : Handle} {f : Family} {xs : List Family} (g : Family) → Found s t xs → f ≡ g
    → Builds t u (Ok h) f → Found s u (xs ++ g ∷ [])
found_built {s} {t} {u} {h} {f} {xs} g one e two =
    found_after s t u xs (g ∷ []) one (found_one t u h g (g ∷ []) (builds_gives t u (Ok h) g (rw e at two)))

-- ---- nodes that are grown

-- the plan of the whole family has the node that is grown
pub grown_planned : (s t : State) (d var : ℕ) (lo hi : Handle) (L H F : Family) → Grows s t → d < s.vars → var ≡ t.vars - d
    → Denotes t lo L → Denotes t hi H → IsFamily d L → IsFamily d H → F ≡ join d L H → H ≢ [] → IsPlanned s F
    → Has t.plan (join (t.vars - var) (family t lo) (family t hi))
grown_planned s t d var lo hi L H F grows less at l h lf hf whole some planned = grind (arith, Denotes-family, sub-join_self)

-- F is planned at the call, in state s, and lo and hi are its parts in v, the state in which the node is grown
pub record MayGrow (s v : State) (var : ℕ) (lo hi : Handle) (F : Family) : Type 0 where
  pub reads : Reads s v
  pub first : 1 ≤ var
  pub last : var ≤ s.vars
  pub low : Family
  pub high : Family
  pub lo_is : Denotes v lo low
  pub hi_is : Denotes v hi high
  pub low_after : IsFamily (s.vars - var) low
  pub high_after : IsFamily (s.vars - var) high
  pub whole : F ≡ join (s.vars - var) low high
  pub planned : IsPlanned s F

-- F may be grown over its parts at the level d
pub may_grow : {s t : State} {var : ℕ} {lo hi : Handle} {F : Family} (d : ℕ) (L H : Family) → Reads s t → d < s.vars → var ≡ t.vars - d
    → Denotes t lo L → Denotes t hi H → IsFamily d L → IsFamily d H → F ≡ join d L H → IsPlanned s F → MayGrow s t var lo hi F
may_grow {s} {t} {var} d L H reads less at l h lf hf whole planned = grind arith

-- all numbers over so many variables may be grown over those over one fewer
pub power_grows : {s t : State} {rest : Handle} (count vars : ℕ) → count ≢ 0 → count ≤ s.vars → Reads s t → vars ≡ t.vars
    → Denotes t rest (power (count - 1)) → IsPlanned s (power count) → MayGrow s t (vars - (count - 1)) rest rest (power count)
power_grows {s} count vars some few reads asked is planned =
    let fits = IsFamily-power (count - 1) in
    may_grow (count - 1) _ _ reads (omega arith) (omega arith) is is fits fits (power_whole count some) planned

module _ {s v : State} {var : ℕ} {lo hi : Handle} {F : Family} (may : MayGrow s v var lo hi F) where
  lo_family : family v lo ≡ may.low
  lo_family = Denotes-family v lo may.low may.lo_is

  hi_family : family v hi ≡ may.high
  hi_family = Denotes-family v hi may.high may.hi_is

  grown_is : join (v.vars - var) (family v lo) (family v hi) ≡ F
  grown_is = cc (may.reads.grows.vars, lo_family, hi_family, may.whole)

  -- the parts may be grown
  pub node_parts : AreParts v var lo hi
  node_parts = grind (arith, Denotes-knows)

  -- the plan has the node over the parts
  pub node_planned : IsSound v → hi.0 ≢ 0 → Has v.plan (join (v.vars - var) (family v lo) (family v hi))
  node_planned ok ne = grind (arith, sub-join_self, filled, is_some)

  -- what was grown over the parts
  pub node_builds : {x : State} {r : Result Handle Full} → Builds v x r (join (v.vars - var) (family v lo) (family v hi)) → Builds s x r F
  node_builds {x} {r} built = Builds-after s v x r F may.reads (rw grown_is at built)

-- ---- operands and kept results: s is the state at the call

-- two handles, for an operation on families
pub handles : (op : Op) {s : State} {a b : Handle} → takes_family op ≡ true → takes_variable op ≡ false → Knows s a → Knows s b
    → AreOperands s op a b.0
handles op family' variable' ka kb = grind arith

-- an operation that allows all operands
pub allowed_all : (op : Op) {n : ℕ} {f g : Family} {x : ℕ} → takes_variable op ≡ false → op ≢ Least → op ≢ Leads → op ≢ TimesVar
    → IsAllowed op n f g x
allowed_all op variable' least leads times = grind arith

-- what was kept is the result; t is the state after the look
pub kept_given : {op : Op} {s t : State} {a : Handle} {b : ℕ} {r : Handle} → AreOperands s op a b → Reads s t → IsResult t op a b r
    → Gives s t (Ok r) (answer op s.vars (family s a) (second s op b) b) (needs_of s op a b)
kept_given {op} {s} {t} {a} {b} {r} is reads kept = grind (arith, second_same, Grows-family)

-- the result may be kept; t is the state after the call
pub given_kept : {op : Op} {s t : State} {a : Handle} {b : ℕ} {r : Handle} → AreOperands s op a b
    → IsAllowed op s.vars (family s a) (second s op b) b
    → Gives s t (Ok r) (answer op s.vars (family s a) (second s op b) b) (needs_of s op a b) → IsResult t op a b r
given_kept {op} {s} {t} {a} {b} {r} is allowed given = grind (arith, second_same, Grows-family, Grows-operands)

-- ---- plans that have every family

Has-map : (d : ℕ) (lo hi : Family) (his : List Family) → Has his hi → Has (map (join d lo) his) (join d lo hi)
Has-map d lo hi [] h = absurd (Has-nil hi h)
Has-map d lo hi (g ∷ gs) h = elim (Has-cases g gs hi h) [
  | inl e ↦ rw e (Has-head (join d lo hi) _)
  | inr i ↦ Has-tail _ _ _ (Has-map d lo hi gs i)
]

every_has : (d : ℕ) (f : Family) → IsFamily d f → Has (every_family d) f
unfolding every_family family_where numbers_below
every_has zero f is = grind (arith, family_where_has 0 f is, cases_Bool (has f 0), Has-tail, Has-head (0 ∷ []), Has-head)
every_has (suc d) f is =
    let lo = low_cofactor d f in let hi = high_cofactor d f in
    rw (join_cofactors_suc d f is) (Has-all_of (λ g. map (join d g) (every_family d)) (every_family d) lo (join d lo hi)
    (every_has d lo (IsFamily-low_cofactor d f)) (Has-map d lo hi (every_family d) (every_has d hi (IsFamily-high_cofactor d f))))

-- a store that may be asked for any family may be so later
pub MayHoldAny-later : (vars : ℕ) (s t : State) → Grows s t → MayHoldAny vars s → MayHoldAny vars t
MayHoldAny-later vars s t grows any = grind arith

-- and a store that was made with the plan of every family may
pub MayHoldAny-made : (s : State) (vars slots : ℕ) (fs : List Family) → s ≡ plain_state vars slots fs 0 []
    → fs ≡ working_set vars (every_family vars) → MayHoldAny vars s
unfolding plain_state
MayHoldAny-made s vars slots fs made plan = rw (made, plan) (record {
  vars_are = refl;
  planned = λ f is g h.
      working_set_members vars (every_family vars) g ∙ Has-all_of (sub vars) (every_family vars) f g (every_has vars f is) h;
})

-- such a plan has each family over the store's variables
pub any_family : (vars : ℕ) (s : State) → MayHoldAny vars s → (f : Family) → IsFamily s.vars f → IsPlanned s f
any_family vars s any f is = any.planned f (rw any.vars_are at is)

-- such a plan has two families combined
pub any_combined : (test : Bool → Bool → Bool) (vars : ℕ) (s : State) (f g : Family) → MayHoldAny vars s
    → IsPlanned s (combine test s.vars f g)
any_combined test vars s f g any = any.planned _ (rw (← any.vars_are) (IsFamily-combine test s.vars f g))

-- such a plan has all numbers
pub any_power : (vars : ℕ) (s : State) → MayHoldAny vars s → IsPlanned s (power s.vars)
any_power vars s any = any.planned _ (rw any.vars_are (IsFamily-power vars))

-- such a plan has the family of one number
pub any_one : (vars : ℕ) (s : State) (m : ℕ) → m < 2 ^ vars → MayHoldAny vars s → IsPlanned s (m ∷ [])
any_one vars s m below any = any.planned (m ∷ []) (IsFamily-single vars m below)

-- a number below the bound is below that of the store
pub any_below : (vars : ℕ) (s : State) (m : ℕ) → m < 2 ^ vars → MayHoldAny vars s → m < 2 ^ s.vars
any_below vars s m below any = rw any.vars_are below
