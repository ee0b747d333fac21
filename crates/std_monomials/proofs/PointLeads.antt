-- The leads of points, from their standard monomials.
use Rattle.std.proofs.Common.{◌≡◌, ◌∙◌, ◌+◌, ◌-◌, Result, Ok, List, [], ◌∷◌, ◌++◌, ap, refl, sym, arith, append-nil}
use Rattle.lattice.specs.Words.{Family, Covers, leads_of, standard_of, leads_list, standard_list, working_set}
use Rattle.lattice.proofs.Polynomials.{standard_by_recursion}
use Rattle.node_store.specs.Stores.{State, Gives, IsSound, Knows, family}
use Rattle.node_store.specs.declared.store.Full.{Full}
use Rattle.node_store.specs.declared.store.Handle.{Handle}
use Rattle.node_store.proofs.StoreLaws.{Reads-refl, known_after}
use Rattle.set_algebra.proofs.Calls.{Calls, calls_start, known_at_hand, last_call}
use Rattle.std_monomials.specs.PointLeads.{point_leads_list}
use Rattle.std_monomials.proofs.MonomialNeeds.{standard_closed}
use Rattle.std_monomials.proofs.Steps.{DoesLeads, DoesStandard, LeadsAsked, StandardAsked, leads_asked, leads_needs, standard_asked}
use Rattle.std_monomials.proofs.Steps.{standard_found}

-- s is the state at the call
module _ {s : State} (points : Handle) (sound : IsSound s) (known : Knows s points)
    (planned : Covers s.plan (working_set s.vars (point_leads_list s.vars (family s points)))) where
  abbrev P : Family
  P = family s points

  start : Calls s s s.vars (point_leads_list s.vars P) (standard_list s.vars P ++ (leads_list s.vars (standard_of s.vars P) ++ []))
      ((points, P) ∷ [])
  start = calls_start (Reads-refl s) (omega arith) planned
      (ap (λ (list : List Family). standard_list s.vars P ++ list) (sym (append-nil (leads_list s.vars (standard_of s.vars P)))))
      (known_at_hand sound known, tt)

  pub points_asked : StandardAsked s points
  points_asked = standard_asked _ start start.here.0

  -- t is the state after the standard monomials
  module _ {t : State} {m : Handle} (one : DoesStandard s points t (Ok m)) where
    after_standard : Calls s t s.vars (point_leads_list s.vars P) (leads_list s.vars (standard_of s.vars P) ++ [])
        ((m, standard_of s.vars P) ∷ (points, P) ∷ [])
    after_standard = standard_found _ start start.here.0 one

    pub monos_asked : LeadsAsked t m 1
    monos_asked = let is = known_after s points sound known in
        leads_asked 1 [] after_standard after_standard.here.0 (omega arith) (omega arith) (omega arith)
        (standard_closed s.vars P (standard_of s.vars P) is (standard_by_recursion s.vars P is).1)

    -- u is the state after the leads
    pub leads_given : {u : State} (r : Result Handle Full) → DoesLeads t m 1 u r
        → Gives s u r (leads_of s.vars (standard_of s.vars P)) (working_set s.vars (point_leads_list s.vars P))
    leads_given r two = let k = after_standard in let all : s.vars + 1 - 1 ≡ s.vars = omega arith in last_call k r
        (leads_needs 1 [] k k.here.0 all ∙ rw (append-nil (leads_list s.vars (standard_of s.vars P))) refl)
        (rw (k.reads.grows.vars, k.here.0.0, all) refl) two
