-- The steps of finding the standard monomials and the leads in a store.
use Rattle.std.proofs.Common.{◌≡◌, ◌≢◌, ℕ, suc, ◌+◌, ◌-◌, ◌<◌, ◌≤◌, ◌&&◌, ◌||◌, Result, Ok, Err, IfOk, List, [], ◌∷◌, ◌++◌, arith, refl}
use Rattle.std.proofs.Common.{rules}
use Rattle.lattice.specs.Words.{Family, IsFamily, union_of, inter_of, Covers, low_cofactor, high_cofactor, level, standard_of, leads_of}
use Rattle.lattice.specs.Words.{answer, IsClosed, needs, operation_list, standard_list, leads_list, working_set}
use Rattle.lattice.specs.declared.op.Op.TheVariants.{Standard, Leads}
use Rattle.lattice.proofs.Polynomials.{IsFamily-leads_of, standard_of_family, standard_by_recursion, standard_of-members, leads_are_minimal}
use Rattle.lattice.proofs.Polynomials.{standard_of-narrow, standard_list-narrow, standard_of-constant, needs-constant, either, both}
use Rattle.lattice.proofs.Polynomials.{standard_split, standard_of-join, leads_of-nil, leads_of-all, unit_only, needs-nil, needs-none_left}
use Rattle.lattice.proofs.Polynomials.{leads_of-join, low_closed, high_closed, kept_of, leads_split}
use Rattle.node_store.specs.Stores.{State, Knows, family, IsSound, Reads, Gives, Builds, AreOperands, IsResult, needs_of}
use Rattle.node_store.specs.declared.store.Handle.{Handle}
use Rattle.node_store.specs.declared.store.Full.{Full}
use Rattle.node_store.proofs.StoreLaws.{Denotes-family, Denotes-knows, Grows-denotes, Reads-refl, constant, filled, given_kept, known_after}
use Rattle.node_store.proofs.StoreLaws.{zero_family}
use Rattle.set_algebra.proofs.Calls.{Calls, IsAtHand, LastNode, after_call, after_combined, call_planned, last_node}
use Rattle.std_monomials.specs.Monomials.{AreStandard, AreLeads}

-- ---- standard monomials

-- what a call asks for; s is the state before it, and a the handle of the points
abbrev pub StandardAsked : State → Handle → Type 0
StandardAsked s a = record { known : Knows s a; planned : Covers s.plan (needs_of s Standard a 0) }

-- what it does
abbrev pub DoesStandard : State → Handle → State → Result Handle Full → Type 0
DoesStandard s a t r = Gives s t r (standard_of s.vars (family s a)) (needs_of s Standard a 0)

module _ {s : State} (a : Handle) (sound : IsSound s) (call : StandardAsked s a) where
  -- what the caller is told
  pub standard_told : {t : State} (r : Result Handle Full) → DoesStandard s a t r
      → record { gives : DoesStandard s a t r; standard : IfOk r (λ h. AreStandard s.vars (family s a) (family t h)) }
  standard_told {t} (Ok h) does = record {
    gives = does;
    standard = rw (Denotes-family t h (standard_of s.vars (family s a)) does.ok)
        (standard_by_recursion s.vars (family s a) (known_after s a sound call.known)).1;
  }
  standard_told (Err e) does = record { gives = does; standard = tt }

  pub constant_gives : {t : State} → Reads s t → a.0 < 2 → DoesStandard s a t (Ok a)
  constant_gives reads small = grind (arith, constant, Grows-denotes, standard_of-constant, needs-constant)

  pub standard_operands : AreOperands s Standard a 0
  standard_operands = record { first = call.known; second_handle = λ e. cc; second_variable = λ e. cc; second_none = λ e f. refl }

-- a call for points C at hand, whose list comes next
module _ {s t : State} {d : ℕ} {all : List Family} {hs : List (Handle × Family)} {h : Handle} {C : Family} (rest : List Family)
    (k : Calls s t d all (standard_list d C ++ rest) hs) (x : IsAtHand t d h C) where
  standard_needs : needs_of t Standard h 0 ≡ working_set s.vars (standard_list d C)
  unfolding needs operation_list
  standard_needs = rw (k.reads.grows.vars, x.0, standard_list-narrow d s.vars C x.1 k.le) refl

  pub standard_asked : StandardAsked t h
  standard_asked = record { known = Denotes-knows t h C x.0; planned = call_planned (standard_list d C) rest k standard_needs }

  pub standard_found : {u : State} {r : Handle} → DoesStandard t h u (Ok r) → Calls s u d all rest ((r, standard_of d C) ∷ hs)
  standard_found does = after_call (standard_list d C) rest k standard_needs
      (rw (k.reads.grows.vars, x.0, standard_of-narrow d s.vars C x.1 k.le) refl) (standard_of_family d C x.1) does

-- in t lh and hh are the parts of the points P at their first variable, which d others follow
pub record StandardCut (s t : State) (d : ℕ) (P : Family) (lh hh : Handle) : Type 0 where
  pub fits : IsFamily s.vars P
  pub top : level s.vars P ≡ suc d
  pub less : d < s.vars
  pub calls : Calls s t d (standard_list s.vars P) (standard_split s.vars d P) ((lh, low_cofactor d P) ∷ (hh, high_cofactor d P) ∷ [])

module _ {s t : State} {d : ℕ} {P : Family} {lh hh : Handle} (k : StandardCut s t d P lh hh) where
  -- in u these families are still to be found, and these handles were
  abbrev In : State → List Family → List (Handle × Family) → Type 0
  In u rest hs = Calls s u d (standard_list s.vars P) rest (hs ++ (lh, low_cofactor d P) ∷ (hh, high_cofactor d P) ∷ [])

  module _ {u : State} {e : Handle} (one : Builds t u (Ok e) (union_of t.vars (family t lh) (family t hh))) where
    pub after_union : In u (both d P ∷ standard_list d (either d P) ++ (standard_list d (both d P) ++ standard_of s.vars P ∷ []))
        ((e, either d P) ∷ [])
    after_union = after_combined (λ a b. a || b) refl k.calls k.calls.here.0 k.calls.here.1.0 one

    module _ {v : State} {b : Handle} (two : Builds u v (Ok b) (inter_of u.vars (family u lh) (family u hh))) where
      pub after_inter : In v (standard_list d (either d P) ++ (standard_list d (both d P) ++ standard_of s.vars P ∷ []))
          ((b, both d P) ∷ (e, either d P) ∷ [])
      after_inter = after_combined (λ a b. a && b) refl after_union after_union.here.1.0 after_union.here.1.1.0 two

      module _ {w : State} {lo : Handle} (three : DoesStandard v e w (Ok lo)) where
        pub after_lo : In w (standard_list d (both d P) ++ standard_of s.vars P ∷ [])
            ((lo, standard_of d (either d P)) ∷ (b, both d P) ∷ (e, either d P) ∷ [])
        after_lo = standard_found _ after_inter after_inter.here.1.0 three

        module _ {x : State} {hi : Handle} (four : DoesStandard w b x (Ok hi)) where
          pub after_hi : In x (standard_of s.vars P ∷ [])
              ((hi, standard_of d (both d P)) ∷ (lo, standard_of d (either d P)) ∷ (b, both d P) ∷ (e, either d P) ∷ [])
          after_hi = standard_found _ after_lo after_lo.here.1.0 four

          pub standard_node : (var : ℕ) → IsSound x → (1 ≤ var) × (var ≤ s.vars) → d ≡ s.vars - var
              → LastNode s x var lo hi (standard_of s.vars P) (working_set s.vars (standard_list s.vars P))
          standard_node var sound range left = last_node var after_hi sound range left after_hi.here.1.0 after_hi.here.0
              (standard_of-join s.vars d P k.fits k.top k.less)

-- ---- leads

-- what a call asks for; s is the state before it, a the handle of the monomials, and x the variable
abbrev pub LeadsAsked : State → Handle → ℕ → Type 0
LeadsAsked s a x = record {
  known : Knows s a;
  first : 1 ≤ x;
  last : x ≤ s.vars + 1;
  closed : IsClosed (family s a);
  after : IsFamily (s.vars + 1 - x) (family s a);
  planned : Covers s.plan (needs_of s Leads a x);
}

-- what it does
abbrev pub DoesLeads : State → Handle → ℕ → State → Result Handle Full → Type 0
DoesLeads s a x t r = Gives s t r (leads_of (s.vars + 1 - x) (family s a)) (needs_of s Leads a x)

module _ {s : State} (a : Handle) (x : ℕ) (sound : IsSound s) (call : LeadsAsked s a x) where
  pub empty_gives : a.0 ≡ 0 → DoesLeads s a x s (Ok (record { 0 = 1 }))
  empty_gives zero = search (rules, arith, zero_family, Reads-refl, leads_of-nil, needs-nil)

  pub none_left_gives : a.0 ≢ 0 → s.vars < x → DoesLeads s a x s (Ok (record { 0 = 0 }))
  none_left_gives some over =
      let none : s.vars + 1 - x ≡ 0 = omega (arith, over) in
      let unit : family s a ≡ 0 ∷ [] = unit_only (family s a) (rw none at call.after) (filled s a sound call.known some) in
      search (rules, arith, Reads-refl, leads_of-all, needs-none_left)

  pub leads_operands : AreOperands s Leads a x
  leads_operands = grind arith

  pub leads_kept : {t : State} {r : Handle} → DoesLeads s a x t (Ok r) → IsResult t Leads a x r
  unfolding answer
  leads_kept does = grind (arith, given_kept)

  -- what the caller is told
  pub leads_told : {t : State} (r : Result Handle Full) → DoesLeads s a x t r → record {
    gives : DoesLeads s a x t r;
    leads : x ≡ 1 → (points : Family) → IsFamily s.vars points → AreStandard s.vars points (family s a)
        → IfOk r (λ h. AreLeads s.vars points (family t h));
  }
  leads_told {t} (Ok h) does = record {
    gives = does;
    leads = λ one points is are. let whole : s.vars + 1 - x ≡ s.vars = omega (arith, one) in
        let theirs = standard_of-members s.vars points (family s a) is (known_after s a sound call.known) are in
        rw (Denotes-family t h (leads_of (s.vars + 1 - x) (family s a)) does.ok, whole, theirs) (leads_are_minimal s.vars points is);
  }
  leads_told (Err e) does = record { gives = does; leads = λ one points is are. tt }

-- a call at the variable x for monomials C at hand, whose list comes next
module _ {s t : State} {d : ℕ} {all : List Family} {hs : List (Handle × Family)} {h : Handle} {C : Family} (x : ℕ) (rest : List Family)
    (k : Calls s t d all (leads_list d C ++ rest) hs) (y : IsAtHand t d h C) (left : s.vars + 1 - x ≡ d) where
  pub leads_needs : needs_of t Leads h x ≡ working_set s.vars (leads_list d C)
  unfolding needs operation_list
  leads_needs = rw (k.reads.grows.vars, y.0, left) refl

  pub leads_asked : 1 ≤ x → x ≤ s.vars + 1 → IsClosed C → LeadsAsked t h x
  leads_asked first last closed = record {
    known = Denotes-knows t h C y.0;
    first = first;
    last = rw k.reads.grows.vars last;
    closed = rw y.0 closed;
    after = rw (k.reads.grows.vars, y.0, left) y.1;
    planned = call_planned (leads_list d C) rest k leads_needs;
  }

  leads_found : {u : State} {r : Handle} → DoesLeads t h x u (Ok r) → Calls s u d all rest ((r, leads_of d C) ∷ hs)
  leads_found does = after_call (leads_list d C) rest k leads_needs (rw (k.reads.grows.vars, y.0, left) refl) (IsFamily-leads_of d C) does

-- in t lh and hh are the parts of the monomials P at the variable x, which d others follow
pub record LeadsCut (s t : State) (x d : ℕ) (P : Family) (lh hh : Handle) : Type 0 where
  pub range : (1 ≤ x) × (x ≤ s.vars)
  pub left : d ≡ s.vars - x
  pub closed : IsClosed P
  pub fits : IsFamily (s.vars + 1 - x) P
  pub calls : Calls s t d (leads_list (s.vars + 1 - x) P) (leads_split d P (leads_of (s.vars + 1 - x) P))
      ((lh, low_cofactor d P) ∷ (hh, high_cofactor d P) ∷ [])

module _ {s t : State} {x d : ℕ} {P : Family} {lh hh : Handle} (k : LeadsCut s t x d P lh hh) where
  abbrev result : Family
  result = leads_of (s.vars + 1 - x) P

  -- in u these families are still to be found, and these handles were
  abbrev Left : State → List Family → List (Handle × Family) → Type 0
  Left u rest hs = Calls s u d (leads_list (s.vars + 1 - x) P) rest (hs ++ (lh, low_cofactor d P) ∷ (hh, high_cofactor d P) ∷ [])

  next : s.vars + 1 - (x + 1) ≡ d
  next = omega (arith, k.left, k.range.0, k.range.1)

  pub low_asked : LeadsAsked t lh (x + 1)
  low_asked = leads_asked (x + 1) _ k.calls k.calls.here.0 next (omega arith) (omega (arith, k.range.1)) (low_closed d P k.closed)

  module _ {u : State} {lo : Handle} (one : DoesLeads t lh (x + 1) u (Ok lo)) where
    pub after_low : Left u (leads_list d (high_cofactor d P) ++ kept_of d P ∷ result ∷ []) ((lo, leads_of d (low_cofactor d P)) ∷ [])
    after_low = leads_found (x + 1) _ k.calls k.calls.here.0 next one

    pub high_asked : LeadsAsked u hh (x + 1)
    high_asked =
        leads_asked (x + 1) _ after_low after_low.here.1.1.0 next (omega arith) (omega (arith, k.range.1)) (high_closed d P k.closed)

    module _ {v : State} {above : Handle} (two : DoesLeads u hh (x + 1) v (Ok above)) where
      pub after_above : Left v (kept_of d P ∷ result ∷ [])
          ((above, leads_of d (high_cofactor d P)) ∷ (lo, leads_of d (low_cofactor d P)) ∷ [])
      after_above = leads_found (x + 1) _ after_low after_low.here.1.1.0 next two

      module _ {w : State} {hi : Handle} (three : Builds v w (Ok hi) (inter_of v.vars (family v above) (family v lh))) where
        pub after_meet : Left w (result ∷ [])
            ((hi, kept_of d P) ∷ (above, leads_of d (high_cofactor d P)) ∷ (lo, leads_of d (low_cofactor d P)) ∷ [])
        after_meet = after_combined (λ a b. a && b) refl after_above after_above.here.0 after_above.here.1.1.0 three

        pub leads_node : IsSound w → LastNode s w x lo hi result (working_set s.vars (leads_list (s.vars + 1 - x) P))
        leads_node sound = last_node x after_meet sound k.range k.left after_meet.here.1.1.0 after_meet.here.0
            (rw k.left (leads_of-join s.vars x P k.range.0 k.range.1 k.fits k.closed))
