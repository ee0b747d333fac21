-- The steps of finding the least polynomial in a store.
use Rattle.std.proofs.Common.{◌≡◌, ◌≢◌, ℕ, suc, ◌-◌, ◌<◌, ◌≤◌, max, Result, Ok, Err, IfOk, List, [], ◌∷◌, ◌++◌, refl, ◌∙◌}
use Rattle.std.proofs.Common.{arith, ◌⊎◌, rules}
use Rattle.lattice.specs.Words.{Family, IsFamily, AreDisjoint, Covers, low_cofactor, high_cofactor, level, IsLeast, interpolate}
use Rattle.lattice.specs.Words.{answer, needs, operation_list, working_set, interpolation_list, upper_zeros, upper_ones, lower_points}
use Rattle.lattice.specs.declared.op.Op.TheVariants.{Least}
use Rattle.lattice.proofs.Diagrams.{cases_empty, low_cofactor_whole, level-below, covers_nil}
use Rattle.lattice.proofs.Polynomials.{has_head, IsFamily-low_cofactor, IsFamily-interpolate, IsLeast-interpolate, no_ones, no_zeros}
use Rattle.lattice.proofs.Polynomials.{one_is_least, zero_is_least, interpolate-narrow, interpolation_list-narrow}
use Rattle.node_store.specs.Stores.{State, Knows, family, IsSound, Reads, Gives, IsResult, needs_of}
use Rattle.node_store.specs.declared.store.Handle.{Handle}
use Rattle.node_store.specs.declared.store.Full.{Full}
use Rattle.node_store.proofs.StoreLaws.{Denotes-family, Denotes-knows, Grows-family, Grows-refl, then_reads, filled, given_kept, handles}
use Rattle.node_store.proofs.StoreLaws.{kept_given, known_after, zero_family}
use Rattle.set_algebra.proofs.Levels.{top_after}
use Rattle.set_algebra.proofs.Calls.{Calls, IsAtHand, LastNode, after_call, after_points, call_planned, cofactors_start, found_at_hand}
use Rattle.set_algebra.proofs.Calls.{last_node}
use Rattle.set_algebra.specs.Pairs.{AreCofactors}
use Rattle.set_algebra.specs.declared.pairs.Cofactors.{Cofactors}
use Rattle.interp_lex.specs.Parts.{common_of, upper_list, lower_of, lower_list, AreKnown}
use Rattle.set_algebra.specs.GivenPoints.{GivesPoints}
use Rattle.set_algebra.specs.declared.points.ValuedPoints.{ValuedPoints}
use Rattle.interp_lex.proofs.PointSteps.{four}
use Rattle.interp_lex.proofs.Recursion.{h, upper_needs, lower_needs, step_list, after_upper, after_lower, Split, points_above, points_below}
use Rattle.interp_lex.proofs.Recursion.{result_is, list_is, upper_zeros_are, upper_ones_are, upper_list_is, lower_points_are, lower_list_is}

-- the working set of the operation
pub needs_least : (s : State) (a b : Handle)
    → needs_of s Least a b.0 ≡ working_set s.vars (interpolation_list s.vars (family s a) (family s b))
unfolding needs operation_list
needs_least s a b = refl

-- what a call asks for; s is the state before it
abbrev pub Asked : State → Handle → Handle → Type 0 → Type 0
Asked s z o R = record {
  zeros : Knows s z;
  ones : Knows s o;
  disjoint : AreDisjoint (family s z) (family s o);
  planned : Covers s.plan (needs_of s Least z o.0);
  ready : R;
}

-- what it does
abbrev pub Does : State → Handle → Handle → State → Result Handle Full → Type 0
Does s zeros ones t r = Gives s t r (interpolate s.vars (family s zeros) (family s ones)) (needs_of s Least zeros ones.0)

module _ {s : State} {R : Type 0} (zeros ones : Handle) (sound : IsSound s) (call : Asked s zeros ones R) where
  -- what the caller is told
  pub told : {t : State} {T : Type 0} (r : Result Handle Full) → T → Does s zeros ones t r → record {
    result : Does s zeros ones t r;
    least : IfOk r (λ k. IsLeast s.vars (family s zeros) (family s ones) (family t k));
    ready : T;
  }
  told {t} (Ok r) ready does = record {
    result = does;
    least = rw (Denotes-family t r (interpolate s.vars (family s zeros) (family s ones)) does.ok)
        (IsLeast-interpolate s.vars (family s zeros) (family s ones)
        (known_after s zeros sound call.zeros).below (known_after s ones sound call.ones).below call.disjoint);
    ready = ready;
  }
  told (Err e) ready does = record { result = does; least = tt; ready = ready }

  -- ---- with no look at the nodes

  pub no_ones_gives : ones.0 ≡ 0 → Does s zeros ones s (Ok (record { 0 = 0 }))
  no_ones_gives e = search (rules, arith, zero_family, Grows-refl, zero_is_least, needs_least, no_ones, covers_nil)

  pub no_zeros_gives : zeros.0 ≡ 0 → ones.0 ≢ 0 → Does s zeros ones s (Ok (record { 0 = 1 }))
  no_zeros_gives e some = search (rules, arith, zero_family, Grows-refl, one_is_least, filled, needs_least, no_zeros, covers_nil)

  -- ---- the kept results

  pub looked_gives : {t : State} {r : Handle} → Reads s t → IsResult t Least zeros ones.0 r → Does s zeros ones t (Ok r)
  unfolding answer
  looked_gives reads kept = kept_given (handles Least refl refl call.zeros call.ones) reads kept

  pub kept_result : {t : State} {r : Handle} → Does s zeros ones t (Ok r) → IsResult t Least zeros ones.0 r
  unfolding answer
  kept_result does = grind (arith, given_kept, handles)

  pub some_node : zeros.0 ≢ 0 → ones.0 ≢ 0 → (2 ≤ zeros.0) ⊎ (2 ≤ ones.0)
  some_node nz nn = grind (arith, has_head 0)

-- ---- at the first variable

first_high : (d n : ℕ) (f g : Family) → IsFamily (suc d) f → IsFamily (suc d) g → d < n → max (level n f) (level n g) ≡ suc d
    → (high_cofactor d f ≢ []) ⊎ (high_cofactor d g ≢ [])
first_high d n f g ff fg less top =
    let wf = low_cofactor_whole d f in let wg = low_cofactor_whole d g in let lf = level-below d n f in let lg = level-below d n g in
    let kf = IsFamily-low_cofactor d f in let kg = IsFamily-low_cofactor d g in
    grind (arith, cases_empty (high_cofactor d f), cases_empty (high_cofactor d g), wf, wg, lf, lg)

-- in t the cofactors c of the zeros and the ones at their first variable are at hand
pub record Cut (s t : State) (zeros ones : Handle) (c : Cofactors) : Type 0 where
  pub split : Split s.vars (s.vars - c.var) (family s zeros) (family s ones)
  pub are : AreCofactors s t zeros ones c
  pub calls : Calls s t (s.vars - c.var) (interpolation_list s.vars (family s zeros) (family s ones))
      (step_list (s.vars - c.var) (family s zeros) (family s ones) (interpolate s.vars (family s zeros) (family s ones)))
      (four c (low_cofactor (s.vars - c.var) (family s zeros)) (high_cofactor (s.vars - c.var) (family s zeros))
      (low_cofactor (s.vars - c.var) (family s ones)) (high_cofactor (s.vars - c.var) (family s ones)))

pub cut_at : {s a t : State} {R : Type 0} {zeros ones : Handle} {c : Cofactors} → IsSound s → Asked s zeros ones R → zeros.0 ≢ 0
    → ones.0 ≢ 0 → Reads s a → Reads a t → AreCofactors a t zeros ones c → Cut s t zeros ones c
unfolding needs operation_list
cut_at {s} {a} {t} {R} {zeros} {ones} {c} sound call nz nn one two found =
    let zs = Grows-family s a zeros one.grows call.zeros in let os = Grows-family s a ones one.grows call.ones in
    let are : AreCofactors s t zeros ones c = grind arith in
    let fits = top_after s zeros ones (suc (s.vars - c.var)) sound call.zeros call.ones are.top in
    let less : s.vars - c.var < s.vars = omega (arith, are.first, are.last) in
    let split : Split s.vars (s.vars - c.var) (family s zeros) (family s ones) = record {
      points = record { zeros_fit = fits.0; ones_fit = fits.1; apart = call.disjoint };
      less = less;
      some_zero = filled s zeros sound call.zeros nz;
      some_one = filled s ones sound call.ones nn;
      high = first_high (s.vars - c.var) s.vars (family s zeros) (family s ones) fits.0 fits.1 less are.top;
    } in record { split = split; are = are; calls = cofactors_start (then_reads one two) are call.planned (list_is split) }

-- a call whose list comes next, for zeros A and ones B at hand
module _ {s u : State} {d : ℕ} {all : List Family} {hs : List (Handle × Family)} {z o : Handle} {A B : Family} (rest : List Family)
    (k : Calls s u d all (interpolation_list d A B ++ rest) hs) (x : IsAtHand u d z A) (y : IsAtHand u d o B) where
  next_needs : needs_of u Least z o.0 ≡ working_set s.vars (interpolation_list d A B)
  next_needs = needs_least u z o ∙ rw (k.reads.grows.vars, x.0, y.0, interpolation_list-narrow d s.vars A B x.1 y.1 k.le) refl

  next_asked : {R : Type 0} → AreDisjoint A B → R → Asked u z o R
  next_asked apart ready = record {
    zeros = Denotes-knows u z A x.0;
    ones = Denotes-knows u o B y.0;
    disjoint = rw (x.0, y.0) apart;
    planned = call_planned (interpolation_list d A B) rest k next_needs;
    ready = ready;
  }

-- the polynomial is found after its list
next_found : {s u v : State} {d : ℕ} {all : List Family} {hs : List (Handle × Family)} {z o r : Handle} {A B : Family} (rest : List Family)
    → Calls s u d all (interpolation_list d A B ++ interpolate d A B ∷ rest) hs → IsAtHand u d z A → IsAtHand u d o B → AreDisjoint A B
    → IsSound v → Does u z o v (Ok r) → Calls s v d all rest ((r, interpolate d A B) ∷ hs)
next_found {s} {d = d} {A = A} {B} rest k x y apart sound does =
    let after = after_call (interpolation_list d A B) (interpolate d A B ∷ rest) k (next_needs _ k x y)
    (rw (k.reads.grows.vars, x.0, y.0) (interpolate-narrow d s.vars A B x.1 y.1 k.le apart)) (IsFamily-interpolate d A B) does in
    found_at_hand sound after after.here.0

module _ {s t : State} {zeros ones : Handle} {c : Cofactors} (k : Cut s t zeros ones c) where
  abbrev d : ℕ
  d = s.vars - c.var

  abbrev Z : Family
  Z = family s zeros

  abbrev O : Family
  O = family s ones

  -- in u these families are still to be found, and these handles were
  abbrev In : State → List Family → List (Handle × Family) → Type 0
  In u rest hs = Calls s u d (interpolation_list s.vars Z O) rest
      (hs ++ four c (low_cofactor d Z) (high_cofactor d Z) (low_cofactor d O) (high_cofactor d O))

  -- ---- the upper part

  abbrev pub UpperList : List Family
  UpperList = upper_list t.vars (family t c.a_low) (family t c.a_high) (family t c.b_low) (family t c.b_high)

  upper_needs_are : working_set t.vars UpperList ≡ working_set s.vars (upper_needs d Z O)
  upper_needs_are = let at = k.calls.here in
      rw (k.calls.reads.grows.vars, at.0.0, at.1.0.0, at.1.1.0.0, at.1.1.1.0.0, upper_list_is d s.vars k.calls.le Z O) refl

  pub upper_planned : Covers t.plan (working_set t.vars UpperList)
  upper_planned = call_planned (upper_needs d Z O) _ k.calls upper_needs_are

  -- u is the state after the points p of the upper part were found
  module _ {u : State} {p : ValuedPoints}
      (two : GivesPoints t u (Ok p) (common_of t.vars (family t c.a_low) (family t c.a_high) (family t c.b_low) (family t c.b_high))
      (common_of t.vars (family t c.a_low) (family t c.b_high) (family t c.b_low) (family t c.a_high)) (working_set t.vars UpperList)) where
    pub upper_found : In u (after_upper d Z O (interpolate s.vars Z O)) ((p.zeros, upper_zeros d Z O) ∷ (p.ones, upper_ones d Z O) ∷ [])
    upper_found = let at = k.calls.here in let up = points_above k.split in
        after_points (upper_needs d Z O) _ k.calls upper_needs_are
        (rw (k.calls.reads.grows.vars, at.0.0, at.1.0.0, at.1.1.0.0, at.1.1.1.0.0, upper_zeros_are d s.vars k.calls.le Z O) refl)
        (rw (k.calls.reads.grows.vars, at.0.0, at.1.0.0, at.1.1.0.0, at.1.1.1.0.0, upper_ones_are d s.vars k.calls.le Z O) refl)
        up.zeros_fit up.ones_fit two

    pub high_asked : {R : Type 0} → R → Asked u p.zeros p.ones R
    high_asked = let at = upper_found in next_asked _ at at.here.0 at.here.1.0 (points_above k.split).apart

    -- v is the state after the polynomial r of the upper part was found
    module _ {v : State} {r : Handle} (sound_v : IsSound v) (three : Does u p.zeros p.ones v (Ok r)) where
      pub high_found : In v (lower_needs d Z O ++ after_lower d Z O (interpolate s.vars Z O))
          ((r, h d Z O) ∷ (p.zeros, upper_zeros d Z O) ∷ (p.ones, upper_ones d Z O) ∷ [])
      high_found = let at = upper_found in next_found _ at at.here.0 at.here.1.0 (points_above k.split).apart sound_v three

      abbrev pub LowerList : List Family
      LowerList = lower_list v.vars (family v r) (family v c.a_low) (family v c.a_high) (family v c.b_low) (family v c.b_high)

      lower_needs_are : working_set v.vars LowerList ≡ working_set s.vars (lower_needs d Z O)
      lower_needs_are = let at = high_found.here in
          let same = lower_list_is d s.vars k.calls.le Z O (h d Z O) at.0.1 in
          rw (high_found.reads.grows.vars, at.0.0, at.1.1.1.0.0, at.1.1.1.1.0.0, at.1.1.1.1.1.0.0, at.1.1.1.1.1.1.0.0, same) refl

      pub lower_asked : {R : Type 0} → R
          → record { known : AreKnown v c; h : Knows v r; planned : Covers v.plan (working_set v.vars LowerList); ready : R }
      lower_asked ready = let at = high_found.here in record {
        known = record {
          a_low = Denotes-knows v c.a_low _ at.1.1.1.0.0;
          a_high = Denotes-knows v c.a_high _ at.1.1.1.1.0.0;
          b_low = Denotes-knows v c.b_low _ at.1.1.1.1.1.0.0;
          b_high = Denotes-knows v c.b_high _ at.1.1.1.1.1.1.0.0;
        };
        h = Denotes-knows v r _ at.0.0;
        planned = call_planned (lower_needs d Z O) _ high_found lower_needs_are;
        ready = ready;
      }

      -- w is the state after the points q of the lower part were found
      module _ {w : State} {q : ValuedPoints}
          (four' : GivesPoints v w (Ok q) (lower_of v.vars (family v r) (family v c.a_low) (family v c.a_high) (family v c.b_high))
          (lower_of v.vars (family v r) (family v c.b_low) (family v c.b_high) (family v c.a_high)) (working_set v.vars LowerList)) where
        pub lower_found : In w (after_lower d Z O (interpolate s.vars Z O)) ((q.zeros, lower_points d (h d Z O) Z O)
            ∷ (q.ones, lower_points d (h d Z O) O Z) ∷ (r, h d Z O) ∷ (p.zeros, upper_zeros d Z O) ∷ (p.ones, upper_ones d Z O) ∷ [])
        lower_found = let at = high_found.here in let low = points_below k.split in let vars = high_found.reads.grows.vars in
            after_points (lower_needs d Z O) _ high_found lower_needs_are
            (rw (vars, at.0.0, at.1.1.1.0.0, at.1.1.1.1.0.0, at.1.1.1.1.1.1.0.0, lower_points_are d s.vars k.calls.le Z O (h d Z O)) refl)
            (rw (vars, at.0.0, at.1.1.1.1.1.0.0, at.1.1.1.1.1.1.0.0, at.1.1.1.1.0.0, lower_points_are d s.vars k.calls.le O Z (h d Z O))
            refl)
            low.zeros_fit low.ones_fit four'

        pub low_asked : {R : Type 0} → R → Asked w q.zeros q.ones R
        low_asked = let at = lower_found in next_asked _ at at.here.0 at.here.1.0 (points_below k.split).apart

        -- x is the state after the polynomial e of the lower part was found
        module _ {x : State} {e : Handle} (sound_x : IsSound x) (five : Does w q.zeros q.ones x (Ok e)) where
          pub node : LastNode s x c.var e r (interpolate s.vars Z O) (needs_of s Least zeros ones.0)
          unfolding needs operation_list
          node = let at = lower_found in
              let last = next_found _ at at.here.0 at.here.1.0 (points_below k.split).apart sound_x five in
              last_node c.var last sound_x (k.are.first, k.are.last) refl last.here.0 last.here.1.1.1.0 (result_is k.split)
