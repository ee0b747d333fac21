-- Calls one after the other, which find the families of a list in its order: what is still to be found is planned, what was found is held,
-- and the handles at hand keep their families. Then the end: a node over two handles, points with their values, or an error.
use Rattle.std.proofs.Common.{◌≡◌, ◌≢◌, ℕ, suc, ◌-◌, ◌<◌, ◌≤◌, max, Bool, false, Result, Ok, Err, IsErr, List, [], ◌∷◌, ◌++◌, refl, arith}
use Rattle.lattice.specs.Words.{Family, IsFamily, Covers, Has, combine, join, level, low_cofactor, high_cofactor, working_set}
use Rattle.lattice.proofs.Diagrams.{combine-narrow, covers_append, covers_cons, covers_head, covers_left, covers_nil, covers_part}
use Rattle.lattice.proofs.Diagrams.{covers_right, covers_tail, level-below}
use Rattle.lattice.proofs.Polynomials.{IsFamily-combine, IsFamily-low_cofactor, IsFamily-high_cofactor}
use Rattle.node_store.specs.Stores.{State, Knows, Denotes, family, IsSound, IsPlanned, Grows, Reads, Gives, Builds, AreParts}
use Rattle.node_store.specs.declared.store.Handle.{Handle}
use Rattle.node_store.specs.declared.store.Full.{Full}
use Rattle.node_store.proofs.StoreLaws.{MayGrow, node_parts, node_planned, node_builds, builds_gives, failed, gives_fewer, then_call}
use Rattle.node_store.proofs.StoreLaws.{then_reads, Grows-family, Grows-refl, Grows-trans, Knows-denotes, Reads-refl, known_after}
use Rattle.set_algebra.specs.Pairs.{AreCofactors}
use Rattle.set_algebra.specs.declared.pairs.Cofactors.{Cofactors}
use Rattle.set_algebra.specs.GivenPoints.{GivesPoints}
use Rattle.set_algebra.specs.declared.points.ValuedPoints.{ValuedPoints}
-- the parts of a cut in a later state
pub use Rattle.set_algebra.proofs.Halving.{cofactors_at, cofactors_later, cut_of, parts_fall}
-- errors where points are given, and points that are given after reads or as others
pub use Rattle.set_algebra.proofs.GivenPoints.{points_failed, failed_points, points_after, points_as}
-- terms later
pub use Rattle.set_algebra.proofs.TermLemmas.{terms_of-later}
-- errors where terms are given
pub use Rattle.set_algebra.proofs.Refusals.{walk_was_over}

-- the handle has this family, which is one over d variables
abbrev pub IsAtHand : State → ℕ → Handle → Family → Type 0
IsAtHand s d h f = Denotes s h f × IsFamily d f

-- and so have the handles of a list theirs
abbrev pub AreAtHand : State → ℕ → List (Handle × Family) → Type 0
AreAtHand s d [] = Unit {0}
AreAtHand s d (x ∷ xs) = IsAtHand s d x.0 x.1 × AreAtHand s d xs

hand_later : {s t : State} (d : ℕ) (hs : List (Handle × Family)) → Grows s t → AreAtHand s d hs → AreAtHand t d hs
hand_later d [] grows are = tt
hand_later d (x ∷ xs) grows are = ((grows.known x.0.0 x.1 are.0.0, are.0.1), hand_later d xs grows are.1)

-- what is known is at hand over the variables of the store
pub known_at_hand : {s : State} {h : Handle} → IsSound s → Knows s h → IsAtHand s s.vars h (family s h)
known_at_hand {s} {h} sound known = (Knows-denotes s h known, known_after s h sound known)

-- calls led from s to t: of the families of `all` those of `rest` are still to be found, and the handles of `hs` are at hand
pub record Calls (s t : State) (d : ℕ) (all rest : List Family) (hs : List (Handle × Family)) : Type 0 where
  pub reads : Reads s t
  pub le : d ≤ s.vars
  pub planned : Covers s.plan (working_set s.vars rest)
  pub whole : (u : State) → Grows t u → Covers u.held (working_set s.vars rest) → Covers u.held (working_set s.vars all)
  pub here : AreAtHand t d hs

-- no family was found yet; the list is given as it will be found
pub calls_start : {s t : State} {d : ℕ} {all rest : List Family} {hs : List (Handle × Family)} → Reads s t → d ≤ s.vars
    → Covers s.plan (working_set s.vars all) → all ≡ rest → AreAtHand t d hs → Calls s t d all rest hs
calls_start reads le planned e hand =
    record { reads = reads; le = le; planned = rw e at planned; whole = λ u later held. rw e held; here = hand }

-- no call was made yet
pub calls_begin : {s : State} {all : List Family} {hs : List (Handle × Family)} → Covers s.plan (working_set s.vars all)
    → AreAtHand s s.vars hs → Calls s s s.vars all all hs
calls_begin {s} planned hand = calls_start (Reads-refl s) (omega arith) planned refl hand

-- the parts of a family at a variable are at hand, where r is the state before they were asked for
pub parts_start : {s r t : State} {lh hh : Handle} {all rest : List Family} (a : Handle) (var : ℕ) → Knows s a → Reads s r → Reads r t
    → Denotes t lh (low_cofactor (r.vars - var) (family r a)) → Denotes t hh (high_cofactor (r.vars - var) (family r a))
    → Covers s.plan (working_set s.vars all) → all ≡ rest
    → Calls s t (s.vars - var) all rest
    ((lh, low_cofactor (s.vars - var) (family s a)) ∷ (hh, high_cofactor (s.vars - var) (family s a)) ∷ [])
parts_start {s} {r} {t} a var known before cut low high planned e =
    let same = Grows-family s r a before.grows known in
    calls_start (then_reads before cut) (omega arith) planned e (
      (rw (before.grows.vars, same) at low, IsFamily-low_cofactor _ _),
      ((rw (before.grows.vars, same) at high, IsFamily-high_cofactor _ _), tt),
    )

-- the parts of two families at their first variable are at hand
pub cofactors_start : {s t : State} {a b : Handle} {c : Cofactors} {all rest : List Family} → Reads s t → AreCofactors s t a b c
    → Covers s.plan (working_set s.vars all) → all ≡ rest → Calls s t (s.vars - c.var) all rest
    ((c.a_low, low_cofactor (s.vars - c.var) (family s a)) ∷ (c.a_high, high_cofactor (s.vars - c.var) (family s a))
    ∷ (c.b_low, low_cofactor (s.vars - c.var) (family s b)) ∷ (c.b_high, high_cofactor (s.vars - c.var) (family s b)) ∷ [])
cofactors_start reads are planned e = calls_start reads (omega arith) planned e (
  (are.a_low, IsFamily-low_cofactor _ _),
  ((are.a_high, IsFamily-high_cofactor _ _), ((are.b_low, IsFamily-low_cofactor _ _), ((are.b_high, IsFamily-high_cofactor _ _), tt))),
)

-- the same families in another order
pub calls_in_order : {s t : State} {d : ℕ} {all xs ys : List Family} {hs : List (Handle × Family)} → Calls s t d all xs hs
    → Covers xs ys → Covers ys xs → Calls s t d all ys hs
calls_in_order {s} {xs = xs} {ys} k there back = record {
  reads = k.reads;
  le = k.le;
  planned = covers_part s.vars s.plan xs ys k.planned there;
  whole = λ u later held. k.whole u later (covers_part s.vars u.held ys xs held back);
  here = k.here;
}

-- one more family that is planned
pub also_planned : {s t : State} {d : ℕ} {all rest : List Family} {hs : List (Handle × Family)} {F : Family} → IsPlanned s F
    → Calls s t d all rest hs → Calls s t d all (F ∷ rest) hs
also_planned {s} {rest = rest} {F = F} planned k = record {
  reads = k.reads;
  le = k.le;
  planned = covers_cons s.vars s.plan rest F planned k.planned;
  whole = λ u later held. k.whole u later (covers_tail s.vars u.held rest F held);
  here = k.here;
}

-- ---- a call that finds the families of a list and gives a handle

module _ {s t : State} {d : ℕ} {all : List Family} {hs : List (Handle × Family)} (list rest : List Family) {needed : List Family}
    (k : Calls s t d all (list ++ rest) hs) (e : needed ≡ working_set s.vars list) where
  -- what it needs is planned
  pub call_planned : Covers t.plan needed
  call_planned = rw (e, k.reads.grows.plan) (covers_left s.vars s.plan list rest k.planned)

  -- after it
  pub after_call : {u : State} {h : Handle} {f F : Family} → f ≡ F → IsFamily d F → Gives t u (Ok h) f needed
      → Calls s u d all rest ((h, F) ∷ hs)
  after_call {u} same fits given = let found = rw e at given.held in record {
    reads = then_call k.reads given;
    le = k.le;
    planned = covers_right s.vars s.plan list rest k.planned;
    whole = λ v later held. k.whole v (Grows-trans t u v given.grows later)
        (covers_append s.vars v.held list rest (λ g i. later.held g (found g i)) held);
    here = ((rw same at given.ok, fits), hand_later d hs given.grows k.here);
  }

  -- after one that gives points with their values
  pub after_points : {u : State} {p : ValuedPoints} {z o Z O : Family} → z ≡ Z → o ≡ O → IsFamily d Z → IsFamily d O
      → GivesPoints t u (Ok p) z o needed → Calls s u d all rest ((p.zeros, Z) ∷ (p.ones, O) ∷ hs)
  after_points {u} {p} {z} zs os zf of given =
      let k = after_call zs zf
      (record { grows = given.grows; ok = given.zeros; held = given.held; quiet = given.quiet; full = tt }) in record {
        reads = k.reads;
        le = k.le;
        planned = k.planned;
        whole = k.whole;
        here = (k.here.0, ((rw os at given.ones, of), k.here.1));
      }

-- after a call whose families are no part of the list
pub after_other : {s t u : State} {d : ℕ} {all rest : List Family} {hs : List (Handle × Family)} {h : Handle} {f F : Family}
    {needed : List Family} → Calls s t d all rest hs → f ≡ F → IsFamily d F → Gives t u (Ok h) f needed
    → Calls s u d all rest ((h, F) ∷ hs)
after_other {s} {rest = rest} {needed = needed} k same fits given =
    after_call [] rest k refl same fits (gives_fewer (covers_nil s.vars needed) given)

-- a family is found with its diagram, where its handle is at hand
pub found_at_hand : {s t : State} {d : ℕ} {all rest : List Family} {hs : List (Handle × Family)} {h : Handle} {F : Family} → IsSound t
    → Calls s t d all (F ∷ rest) hs → IsAtHand t d h F → Calls s t d all rest hs
found_at_hand {s} {t} {rest = rest} {h = h} {F} sound k x = record {
  reads = k.reads;
  le = k.le;
  planned = covers_tail s.vars s.plan rest F k.planned;
  whole = λ v later held. k.whole v later (covers_cons s.vars v.held rest F
      (λ g i. later.held g (sound.subs h.0 F x.0 g (rw k.reads.grows.vars i))) held);
  here = k.here;
}

-- a family at hand has fewer variables than one that was cut at the variable
pub hand_falls : {s t : State} {d : ℕ} {all rest : List Family} {hs : List (Handle × Family)} {h : Handle} {F : Family} (P : Family)
    → Calls s t d all rest hs → IsAtHand t d h F → level s.vars P ≡ suc d → level t.vars (family t h) < level s.vars P
hand_falls {s} {d = d} {F = F} P k x top = rw (k.reads.grows.vars, x.0, top) (omega (arith, level-below d s.vars F x.1 k.le))

-- and so have two families at hand, of two that were cut there
pub hands_fall : {s t : State} {d : ℕ} {all rest : List Family} {hs : List (Handle × Family)} {x y : Handle} {A B : Family} (P Q : Family)
    → Calls s t d all rest hs → IsAtHand t d x A → IsAtHand t d y B → max (level s.vars P) (level s.vars Q) ≡ suc d
    → max (level t.vars (family t x)) (level t.vars (family t y)) < max (level s.vars P) (level s.vars Q)
hands_fall {s} {d = d} {A = A} {B} P Q k l r top =
    rw (k.reads.grows.vars, l.0, r.0, top) (omega (arith, level-below d s.vars A l.1 k.le, level-below d s.vars B r.1 k.le))

-- ---- a call that gives a family and needs its diagram alone

module _ {s t : State} {d : ℕ} {all rest : List Family} {hs : List (Handle × Family)} {f F : Family} (k : Calls s t d all (F ∷ rest) hs)
    (same : f ≡ F) where
  -- it is planned
  pub built_planned : IsPlanned t f
  built_planned = rw (k.reads.grows.plan, k.reads.grows.vars, same) (covers_head s.vars s.plan rest F k.planned)

  -- after it
  pub after_built : {u : State} {h : Handle} → IsFamily d F → Builds t u (Ok h) f → Calls s u d all rest ((h, F) ∷ hs)
  after_built {u} {h} fits built =
      after_call (F ∷ []) rest k (rw (same, k.reads.grows.vars) refl) same fits (builds_gives t u (Ok h) f built)

module _ (test : Bool → Bool → Bool) (none : test false false ≡ false) {s t : State} {d : ℕ} {all rest : List Family}
    {hs : List (Handle × Family)} {a b : Handle} {A B : Family} (k : Calls s t d all (combine test d A B ∷ rest) hs)
    (x : IsAtHand t d a A) (y : IsAtHand t d b B) where
  combined_is : combine test t.vars (family t a) (family t b) ≡ combine test d A B
  combined_is = rw (k.reads.grows.vars, x.0, y.0) (combine-narrow test none d s.vars A B x.1 y.1 k.le)

  -- two families at hand combined are planned
  pub combined_planned : IsPlanned t (combine test t.vars (family t a) (family t b))
  combined_planned = built_planned k combined_is

  -- after that call
  pub after_combined : {u : State} {h : Handle} → Builds t u (Ok h) (combine test t.vars (family t a) (family t b))
      → Calls s u d all rest ((h, combine test d A B) ∷ hs)
  after_combined built = after_built k combined_is (IsFamily-combine test d A B) built

-- ---- at the end

-- the family was found
pub handle_end : {s t : State} {d : ℕ} {all : List Family} {hs : List (Handle × Family)} {h : Handle} {F : Family} → Calls s t d all [] hs
    → IsAtHand t d h F → Gives s t (Ok h) F (working_set s.vars all)
handle_end {s} {t} k x = record {
  grows = k.reads.grows;
  ok = x.0;
  held = k.whole t (Grows-refl t) (covers_nil s.vars t.held);
  quiet = k.reads.quiet;
  full = tt;
}

-- both families were found
pub points_end : {s t : State} {d : ℕ} {all : List Family} {hs : List (Handle × Family)} {z o : Handle} {Z O : Family}
    → Calls s t d all [] hs → IsAtHand t d z Z → IsAtHand t d o O
    → GivesPoints s t (Ok (record { zeros = z; ones = o })) Z O (working_set s.vars all)
points_end {s} {t} k x y = record {
  grows = k.reads.grows;
  zeros = x.0;
  ones = y.0;
  held = k.whole t (Grows-refl t) (covers_nil s.vars t.held);
  quiet = k.reads.quiet;
  full = tt;
}

module _ {s t : State} {d : ℕ} {all rest : List Family} {hs : List (Handle × Family)} (k : Calls s t d all rest hs) where
  -- an error of the next call is passed on
  pub call_failed : {u : State} {r : Result Handle Full} {e : Full} {f g : Family} {needed more : List Family} → IsErr r
      → Gives t u (Err e) f needed → Gives s u r g more
  call_failed err given = failed err k.reads given

  -- what is left is planned
  pub last_planned : {needed : List Family} → needed ≡ working_set s.vars rest → Covers t.plan needed
  last_planned e = rw (e, k.reads.grows.plan) k.planned

  -- the last call needs all of what is left
  pub last_call : {u : State} (r : Result Handle Full) {f F : Family} {needed : List Family} → needed ≡ working_set s.vars rest → f ≡ F
      → Gives t u r f needed → Gives s u r F (working_set s.vars all)
  last_call {u} (Ok h) e same given = let reads = then_call k.reads given in record {
    grows = reads.grows;
    ok = rw same at given.ok;
    held = k.whole u given.grows (rw e at given.held);
    quiet = reads.quiet;
    full = tt;
  }
  last_call (Err x) e same given = failed refl k.reads given

-- the last call gives the last family, and needs those before it
pub last_result : {s t u : State} {d : ℕ} {all : List Family} {hs : List (Handle × Family)} (list : List Family) {f F : Family}
    {needed : List Family} → Calls s t d all (list ++ F ∷ []) hs → IsSound u → IsFamily d F → needed ≡ working_set s.vars list → f ≡ F
    → (r : Result Handle Full) → Gives t u r f needed → Gives s u r F (working_set s.vars all)
last_result list {F = F} k sound fits e same (Ok h) given =
    let found = after_call list (F ∷ []) k e same fits given in handle_end (found_at_hand sound found found.here.0) found.here.0
last_result list k sound fits e same (Err x) given = failed refl k.reads given

-- a last call that combines two families at hand
pub last_combined : (test : Bool → Bool → Bool) → test false false ≡ false → {s t u : State} {d : ℕ} {all : List Family}
    {hs : List (Handle × Family)} {a b : Handle} {A B : Family} → Calls s t d all (combine test d A B ∷ []) hs → IsAtHand t d a A
    → IsAtHand t d b B → (r : Result Handle Full) → Builds t u r (combine test t.vars (family t a) (family t b))
    → Gives s u r (combine test d A B) (working_set s.vars all)
last_combined test none {t = t} {u} k x y r built = let same = combined_is test none k x y in
    last_call k r (rw (same, k.reads.grows.vars) refl) same (builds_gives t u r _ built)

node_given : {s t u : State} {d : ℕ} {all : List Family} {hs : List (Handle × Family)} {lo hi : Handle} {F : Family} {var : ℕ}
    → Calls s t d all (F ∷ []) hs → MayGrow s t var lo hi F → (r : Result Handle Full)
    → Builds t u r (join (t.vars - var) (family t lo) (family t hi)) → Gives s u r F (working_set s.vars all)
node_given {s} {t} {u} {F = F} k may (Ok h) built = let given = builds_gives s u (Ok h) F (node_builds may built) in
    record { grows = given.grows; ok = given.ok; held = k.whole u built.grows given.held; quiet = given.quiet; full = tt }
node_given k may (Err e) built = failed refl k.reads built

-- a node over two handles at the end: t is the state before it is grown, and F and what is needed are those of the whole
pub record LastNode (s t : State) (var : ℕ) (lo hi : Handle) (F : Family) (needed : List Family) : Type 0 where
  pub asked : record {
    parts : AreParts t var lo hi;
    planned : hi.0 ≢ 0 → Has t.plan (join (t.vars - var) (family t lo) (family t hi));
  }
  pub given : {u : State} (r : Result Handle Full) → Builds t u r (join (t.vars - var) (family t lo) (family t hi)) → Gives s u r F needed

-- the node over two handles at hand gives the last family
pub last_node : {s t : State} {all : List Family} {hs : List (Handle × Family)} {lo hi : Handle} {F L H : Family} {d : ℕ} (var : ℕ)
    → Calls s t d all (F ∷ []) hs → IsSound t → (1 ≤ var) × (var ≤ s.vars) → d ≡ s.vars - var → IsAtHand t d lo L → IsAtHand t d hi H
    → F ≡ join d L H → LastNode s t var lo hi F (working_set s.vars all)
last_node {s} {t} {all} {lo = lo} {hi} {F} {L} {H} var k sound range e low high whole =
    let may : MayGrow s t var lo hi F = record {
      reads = k.reads;
      first = range.0;
      last = range.1;
      low = L;
      high = H;
      lo_is = low.0;
      hi_is = high.0;
      low_after = rw e at low.1;
      high_after = rw e at high.1;
      whole = rw e at whole;
      planned = covers_head s.vars s.plan [] F k.planned;
    } in record {
      asked = record { parts = node_parts may; planned = node_planned may sound };
      given = λ r built. node_given k may r built;
    }
