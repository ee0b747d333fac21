-- The normal form of a monomial: the points where it is 1, and the least polynomial that is 1 at these points alone. The element with
-- a given lead: the lead, the points where it is 1, its normal form, and their sum.
use Rattle.std.proofs.Common.{◌≡◌, ◌∙◌, ℕ, ◌^◌, ◌<◌, Result, Ok, Err, IfOk, List, [], ◌∷◌, ◌++◌, refl, arith}
use Rattle.lattice.specs.Words.{IsBasisElement, IsLead, ones_at, zeros_at, normal_form_of, basis_element_of, AreDisjoint, Family}
use Rattle.lattice.specs.Words.{Covers, combine, first_only, has, minus_of, sum_of, IsLeast, interpolate, ones_of, working_set}
use Rattle.lattice.specs.Words.{interpolation_list, normal_form_list, basis_element_list}
use Rattle.lattice.specs.declared.op.Op.TheVariants.{Least, Ones}
use Rattle.lattice.proofs.Diagrams.{Has-head, Has-tail, Has-append_left, Has-append_right, IsFamily-single, covers_head}
use Rattle.lattice.proofs.Diagrams.{covers_lists, covers_more, covers_nothing}
use Rattle.lattice.proofs.Polynomials.{IsBasisElement-basis_element_of, IsFamily-family_where, IsFamily-interpolate}
use Rattle.lattice.proofs.Polynomials.{IsLeast-normal_form_of, has-family_where}
use Rattle.node_store.specs.Stores.{State, Knows, family, IsSound, Gives, Builds, needs_of}
use Rattle.node_store.specs.declared.store.Full.{Full}
use Rattle.node_store.specs.declared.store.Handle.{Handle}
use Rattle.node_store.proofs.StoreLaws.{Denotes-family, Reads-refl, known_after}
use Rattle.set_algebra.proofs.Calls.{Calls, IsAtHand, after_built, after_call, after_combined, after_other, built_planned, call_planned}
use Rattle.set_algebra.proofs.Calls.{calls_begin, calls_in_order, calls_start, found_at_hand, known_at_hand, last_call, last_planned}
use Rattle.set_algebra.proofs.Calls.{last_result}
use Rattle.interp_lex.proofs.InterpolationNeeds.{needs_least}
use Rattle.bool_poly.proofs.OnesLemmas.{covers_single, needs_ones, ones_of-single}

-- ---- the least polynomial that is 1 at some points and 0 at the others

-- what it needs
abbrev least_list : ℕ → Family → Family → List Family
least_list n points ones = minus_of n points ones ∷ interpolation_list n (minus_of n points ones) ones

minus_apart : (n : ℕ) (f g : Family) → AreDisjoint (minus_of n f g) g
unfolding combine
minus_apart n f g x i j = grind (arith, has-family_where n (λ a. first_only (has f a) (has g a)) x)

-- what a call asks for; s is the state before it, and R says that the operations are ready
abbrev LeastAsked : State → Handle → Handle → Type 0 → Type 0
LeastAsked s p o R = record {
  points : Knows s p;
  ones : Knows s o;
  planned : Covers s.plan (working_set s.vars (least_list s.vars (family s p) (family s o)));
  ready : R;
}

module _ {s : State} (points ones : Handle) (R : Type 0) (sound : IsSound s) (call : LeastAsked s points ones R) where
  abbrev P : Family
  P = family s points

  abbrev O : Family
  O = family s ones

  abbrev Z : Family
  Z = minus_of s.vars P O

  pub least_start : Calls s s s.vars (least_list s.vars P O) (least_list s.vars P O) ((points, P) ∷ (ones, O) ∷ [])
  least_start = calls_begin call.planned (known_at_hand sound call.points, (known_at_hand sound call.ones, tt))

  -- t is the state after the points of value 0
  module _ {t : State} {zeros : Handle} (one : Builds s t (Ok zeros) Z) where
    after_zeros : Calls s t s.vars (least_list s.vars P O) (interpolation_list s.vars Z O) ((zeros, Z) ∷ (points, P) ∷ (ones, O) ∷ [])
    after_zeros = after_combined first_only refl least_start least_start.here.0 least_start.here.1.0 one

    pub apart : AreDisjoint (family t zeros) (family t ones)
    apart = rw (after_zeros.here.0.0, after_zeros.here.1.1.0.0) (minus_apart s.vars P O)

    needs_are : needs_of t Least zeros ones.0 ≡ working_set s.vars (interpolation_list s.vars Z O)
    needs_are = let k = after_zeros in needs_least t zeros ones ∙ rw (k.reads.grows.vars, k.here.0.0, k.here.1.1.0.0) refl

    pub least_planned : Covers t.plan (needs_of t Least zeros ones.0)
    least_planned = last_planned after_zeros needs_are

    pub least_given : {u : State} (r : Result Handle Full)
        → Gives t u r (interpolate t.vars (family t zeros) (family t ones)) (needs_of t Least zeros ones.0)
        → Gives s u r (interpolate s.vars Z O) (working_set s.vars (least_list s.vars P O))
    least_given r two = let k = after_zeros in last_call k r needs_are (rw (k.reads.grows.vars, k.here.0.0, k.here.1.1.0.0) refl) two

-- ---- the normal form, of points and the points where m is 1, both at hand

module _ {s t : State} {all : List Family} {hs : List (Handle × Family)} (m : ℕ) (P : Family) (rest : List Family) {points o : Handle}
    (k : Calls s t s.vars all (least_list s.vars P (ones_at s.vars m P) ++ rest) hs) (x : IsAtHand t s.vars points P)
    (y : IsAtHand t s.vars o (ones_at s.vars m P)) where
  pub values_needs : working_set t.vars (least_list t.vars (family t points) (family t o))
      ≡ working_set s.vars (least_list s.vars P (ones_at s.vars m P))
  values_needs = rw (k.reads.grows.vars, x.0, y.0) refl

  pub values_planned : Covers t.plan (working_set t.vars (least_list t.vars (family t points) (family t o)))
  values_planned = call_planned _ rest k values_needs

  pub normal_is : interpolate t.vars (minus_of t.vars (family t points) (family t o)) (family t o) ≡ normal_form_of s.vars m P
  unfolding normal_form_of
  normal_is = rw (k.reads.grows.vars, x.0, y.0) refl

-- what it needs, in the order in which it is found
abbrev normal_parts : ℕ → ℕ → Family → List Family
normal_parts n m points = ones_at n m points ∷ (least_list n points (ones_at n m points) ++ normal_form_of n m points ∷ [])

abbrev NormalAsked : State → ℕ → Handle → Type 0 → Type 0
NormalAsked s m points R = record {
  below : m < 2 ^ s.vars;
  known : Knows s points;
  planned : Covers s.plan (working_set s.vars (normal_form_list s.vars m (family s points)));
  ready : R;
}

module _ {s : State} (m : ℕ) (points : Handle) (R : Type 0) (sound : IsSound s) (call : NormalAsked s m points R) where
  abbrev N : Family
  N = family s points

  pub normal_start : Calls s s s.vars (normal_form_list s.vars m N) (normal_parts s.vars m N) ((points, N) ∷ [])
  unfolding normal_form_list
  normal_start = calls_start (Reads-refl s) (omega arith) call.planned refl (known_at_hand sound call.known, tt)

  -- t is the state after the points where m is 1
  module _ {t : State} {o : Handle} (one : Builds s t (Ok o) (ones_at s.vars m N)) where
    pub after_ones : Calls s t s.vars (normal_form_list s.vars m N)
        (least_list s.vars N (ones_at s.vars m N) ++ normal_form_of s.vars m N ∷ []) ((o, ones_at s.vars m N) ∷ (points, N) ∷ [])
    after_ones = after_built normal_start refl (IsFamily-family_where s.vars _) one

    pub normal_gives : {u : State} (r : Result Handle Full) → IsSound u
        → Gives t u r (interpolate t.vars (minus_of t.vars (family t points) (family t o)) (family t o))
        (working_set t.vars (least_list t.vars (family t points) (family t o)))
        → Gives s u r (normal_form_of s.vars m N) (working_set s.vars (normal_form_list s.vars m N))
    unfolding normal_form_of
    normal_gives r okay two = let k = after_ones in last_result _ k okay (IsFamily-interpolate s.vars _ _)
        (values_needs m N _ k k.here.1.0 k.here.0) (normal_is m N _ k k.here.1.0 k.here.0) r two

  -- what it denotes is the least polynomial with these values
  pub normal_least : {t : State} {needs : List Family} (r : Result Handle Full) → Gives s t r (normal_form_of s.vars m N) needs
      → IfOk r (λ h. IsLeast s.vars (zeros_at s.vars m N) (ones_at s.vars m N) (family t h))
  normal_least {t} (Ok h) does =
      rw (Denotes-family t h _ does.ok) (IsLeast-normal_form_of s.vars m N (known_after s points sound call.known))
  normal_least (Err e) does = tt

-- ---- the element with a given lead

-- what it needs, in the order in which it is found
abbrev element_parts : ℕ → ℕ → Family → List Family
element_parts n m points = (m ∷ []) ∷ ones_at n m points ∷ (least_list n points (ones_at n m points)
    ++ normal_form_of n m points ∷ sum_of n (m ∷ []) (normal_form_of n m points) ∷ [])

ruleset parts = (covers_lists, covers_more, covers_nothing, Has-head, Has-tail, Has-append_left, Has-append_right)

in_order : (lead ones normal element : Family) (list : List Family)
    → let all = (ones ∷ (list ++ normal ∷ [])) ++ lead ∷ element ∷ [] in let found = lead ∷ ones ∷ (list ++ normal ∷ element ∷ []) in
    Covers all found × Covers found all
in_order lead ones normal element list = (search parts depth 9 fits 3000, search parts depth 9 fits 3000)

abbrev ElementAsked : State → ℕ → Handle → Type 0 → Type 0
ElementAsked s m points R = record {
  below : m < 2 ^ s.vars;
  known : Knows s points;
  lead : IsLead s.vars (family s points) m;
  planned : Covers s.plan (working_set s.vars (basis_element_list s.vars m (family s points)));
  ready : R;
}

module _ {s : State} (m : ℕ) (points : Handle) (R : Type 0) (sound : IsSound s) (call : ElementAsked s m points R) where
  abbrev Q : Family
  Q = family s points

  -- in t these families are still to be found, and these handles were
  abbrev In : State → List Family → List (Handle × Family) → Type 0
  In t rest hs = Calls s t s.vars (basis_element_list s.vars m Q) rest (hs ++ (points, Q) ∷ [])

  pub element_start : In s (element_parts s.vars m Q) []
  unfolding basis_element_list normal_form_list basis_element_of
  element_start = let order = in_order (m ∷ []) (ones_at s.vars m Q) (normal_form_of s.vars m Q)
      (sum_of s.vars (m ∷ []) (normal_form_of s.vars m Q)) (least_list s.vars Q (ones_at s.vars m Q)) in
      calls_in_order (calls_start (Reads-refl s) (omega arith) call.planned refl (known_at_hand sound call.known, tt)) order.0 order.1

  -- what it denotes is the element with the lead
  pub element_right : {t : State} (r : Result Handle Full)
      → Gives s t r (basis_element_of s.vars m Q) (working_set s.vars (basis_element_list s.vars m Q))
      → IfOk r (λ h. IsBasisElement s.vars Q m (family t h))
  element_right {t} (Ok h) does = rw (Denotes-family t h _ does.ok)
      (IsBasisElement-basis_element_of s.vars m Q (known_after s points sound call.known) call.below call.lead.not_standard)
  element_right (Err e) does = tt

  -- t is the state after the lead
  module _ {t : State} {lead : Handle} (one : Builds s t (Ok lead) (m ∷ [])) where
    abbrev left : List Family
    left = least_list s.vars Q (ones_at s.vars m Q) ++ normal_form_of s.vars m Q ∷ sum_of s.vars (m ∷ []) (normal_form_of s.vars m Q) ∷ []

    pub after_lead : In t (ones_at s.vars m Q ∷ left) ((lead, m ∷ []) ∷ [])
    after_lead = after_built element_start refl (IsFamily-single s.vars m call.below) one

    pub lead_ones_planned : Covers t.plan (needs_of t Ones lead points.0)
    lead_ones_planned = let k = after_lead in
        rw (needs_ones t.vars (family t lead) (family t points) points.0, k.reads.grows.plan, k.reads.grows.vars, k.here.0.0, k.here.1.0.0)
        (covers_single s.plan s.vars s.vars (omega arith) m call.below Q k.here.1.0.1 (built_planned element_start refl)
        (covers_head s.vars s.plan left (ones_at s.vars m Q) k.planned))

    -- u is the state after the points where it is 1
    module _ {u : State} {o : Handle} (okay : IsSound u)
        (two : Gives t u (Ok o) (ones_of t.vars (family t lead) (family t points)) (needs_of t Ones lead points.0)) where
      pub after_points : In u left ((o, ones_at s.vars m Q) ∷ (lead, m ∷ []) ∷ [])
      after_points = let k = after_lead in
          let found = after_other k (rw (k.reads.grows.vars, k.here.0.0, k.here.1.0.0) (ones_of-single s.vars m Q))
          (IsFamily-family_where s.vars _) two in found_at_hand okay found found.here.0

      pub tail_planned : Covers u.plan (working_set u.vars (least_list u.vars (family u points) (family u o)))
      tail_planned = let k = after_points in values_planned m Q _ k k.here.1.1.0 k.here.0

      -- v is the state after the normal form
      pub after_tail : {v : State} {x : Handle} → IsSound v
          → Gives u v (Ok x) (interpolate u.vars (minus_of u.vars (family u points) (family u o)) (family u o))
          (working_set u.vars (least_list u.vars (family u points) (family u o)))
          → In v (sum_of s.vars (m ∷ []) (normal_form_of s.vars m Q) ∷ [])
          ((x, normal_form_of s.vars m Q) ∷ (o, ones_at s.vars m Q) ∷ (lead, m ∷ []) ∷ [])
      unfolding normal_form_of
      after_tail fine three = let k = after_points in
          let found = after_call _ _ k (values_needs m Q _ k k.here.1.1.0 k.here.0) (normal_is m Q _ k k.here.1.1.0 k.here.0)
          (IsFamily-interpolate s.vars _ _) three in found_at_hand fine found found.here.0
