-- The care points of two outputs put together, their leads, the elements of their reduced basis, and the limits that these pass.
use Rattle.std.proofs.Common.{◌≡◌, ◌∙◌, ◌++◌, ◌∷◌, ℕ, [], Ok, refl, ◌<◌, ◌^◌, List, ap, append-nil, append_assoc, arith, length}
use Rattle.std.proofs.Common.{reverse, subst, sym, true, ◌≢◌, None, Option, Some, map, Err, Result, ◌≤◌}
use Rattle.std.specs.List.{All}
use Rattle.std.proofs.lemmas.Grind.{flat_map-append}
use Rattle.std.proofs.lemmas.List.{nil_from_length, reverse-append, length-map}
use Rattle.std.specs.Prelude.{IfErr, IfOk}
use Rattle.std.proofs.lemmas.Bool.Decides.{nat_tests}
use Rattle.lattice.specs.Words.{leads_of, standard_of, IsLead, basis_element_of, Covers, Family, has, working_set, basis_element_list}
use Rattle.lattice.proofs.Diagrams.{covers_append, covers_left, covers_right}
use Rattle.lattice.proofs.Polynomials.{IsFamily-care_set, All-from_has, All-has, has-append, has_head, leads_are_minimal}
use Rattle.node_store.specs.Stores.{Builds, Gives, Grows, State, family, Knows}
use Rattle.node_store.specs.declared.store.Full.{Full}
use Rattle.node_store.specs.declared.store.Handle.{Handle}
use Rattle.node_store.proofs.StoreLaws.{Denotes-family, Grows-family, Grows-knows, Grows-refl, Grows-trans}
use Rattle.node_store.proofs.StoreLaws.{Reads-refl, builds_gives}
use Rattle.pla_reader.specs.Reading.{Description}
use Rattle.set_algebra.specs.declared.refusal.TermsRefusal.{TermsRefusal}
use Rattle.set_algebra.specs.declared.refusal.TermsRefusal.TheVariants as stops
use Rattle.set_algebra.proofs.Calls.{Calls, after_call, calls_start, last_call}
use Rattle.std_monomials.specs.PointLeads.{point_leads_list}
use Rattle.cube_build.specs.CarePoints.{points_list}
use Rattle.nf_run.specs.Found.{output_points}
use Rattle.nf_run.specs.Joint.{HoldsJoint, first_phase_list, joined, joint_points, joint_points_list, HoldsBasis}
use Rattle.nf_run.specs.Joint.{HoldsElements, elements_list, joint_leads, second_phase_list, FindsBasis, FindsLeads, IsJointBasis}
use Rattle.nf_run.specs.Joint.{first_nodes, first_refused, joint_basis_of}
use Rattle.nf_run.specs.declared.joint.Joining.{Joining}
use Rattle.nf_run.specs.declared.phases.Joint.{Joint}
use Rattle.nf_run.proofs.Found.{found_families, found_known, none_found, one_found}
use Rattle.nf_run.proofs.JointBases.{basis_listed, joint_fits, joint_exists, joint_unique}

-- a description's variables are the store's
pub over_store : {m n : ℕ} (list : List Family) → m ≡ n → working_set n list ≡ working_set m list
over_store list are = ap (λ n. working_set n list) (sym are)

-- ---- the points; s is the state at the call, t the one after the points of output 1, u after those of output 2

module _ {s : State} (d : Description) (joining : Joining) (vars_are : s.vars ≡ d.inputs)
    (planned : Covers s.plan (working_set d.inputs (joint_points_list d joining))) where
  pub joint_start : Calls s s d.inputs (joint_points_list d joining) (joint_points_list d joining) []
  joint_start = calls_start (Reads-refl s) (omega (arith, vars_are)) (rw vars_are planned) refl tt

  module _ {t : State} {first : Handle} (one : Gives s t (Ok first) (output_points d 1) (working_set d.inputs (points_list d 1))) where
    pub after_first : Calls s t d.inputs (joint_points_list d joining) (points_list d 2 ++ joint_points d joining ∷ [])
        ((first, output_points d 1) ∷ [])
    after_first =
        after_call (points_list d 1) _ joint_start (over_store _ vars_are) refl (IsFamily-care_set d.inputs d.kind d.rows 1) one

    module _ {u : State} {second : Handle} (two : Gives t u (Ok second) (output_points d 2) (working_set d.inputs (points_list d 2)))
      where
        pub after_second : Calls s u d.inputs (joint_points_list d joining) (joint_points d joining ∷ [])
            ((second, output_points d 2) ∷ (first, output_points d 1) ∷ [])
        after_second =
            after_call (points_list d 2) _ after_first (over_store _ vars_are) refl (IsFamily-care_set d.inputs d.kind d.rows 2) two

        pub joined_is : joined joining u.vars (family u first) (family u second) ≡ joint_points d joining
        joined_is = let k = after_second in rw (k.reads.grows.vars, vars_are, k.here.0.0, k.here.1.0.0) refl

        pub joint_given : {v : State} (r : Result Handle Full) → Builds u v r (joined joining u.vars (family u first) (family u second))
            → Gives s v r (joint_points d joining) (working_set d.inputs (joint_points_list d joining))
        joint_given r is = let k = after_second in rw (over_store (joint_points_list d joining) vars_are)
            (last_call k r (rw (joined_is, k.reads.grows.vars) refl) joined_is (builds_gives _ _ r _ is))

-- ---- phase 1; t is the state after the points

module _ {s : State} (d : Description) (joining : Joining) (vars_are : s.vars ≡ d.inputs)
    (planned : Covers s.plan (working_set d.inputs (first_phase_list d joining))) where
  phase_start : Calls s s d.inputs (first_phase_list d joining) (first_phase_list d joining) []
  phase_start = calls_start (Reads-refl s) (omega (arith, vars_are)) (rw vars_are planned) refl tt

  module _ {t : State} {points : Handle}
      (is : Gives s t (Ok points) (joint_points d joining) (working_set d.inputs (joint_points_list d joining))) where
    pub after_joint : Calls s t d.inputs (first_phase_list d joining) (point_leads_list d.inputs (joint_points d joining))
        ((points, joint_points d joining) ∷ [])
    after_joint = after_call (joint_points_list d joining) _ phase_start (over_store _ vars_are) refl (joint_fits d joining) is

    pub leads_needs : working_set t.vars (point_leads_list t.vars (family t points))
        ≡ working_set s.vars (point_leads_list d.inputs (joint_points d joining))
    leads_needs = let k = after_joint in rw (k.reads.grows.vars, vars_are, k.here.0.0) refl

    pub phase_held : {u : State} {h : Handle} → Gives t u (Ok h) (leads_of t.vars (standard_of t.vars (family t points)))
        (working_set t.vars (point_leads_list t.vars (family t points)))
        → HoldsJoint u d joining (record { points = points; leads = h })
    phase_held {u = u} {h = h} gives =
        let k = after_joint in let leads = last_call k (Ok h) leads_needs (rw (k.reads.grows.vars, vars_are, k.here.0.0) refl) gives in
        record { points = gives.grows.known points.0 _ is.ok; leads = leads.ok; held = rw vars_are at leads.held }

-- ---- the elements of the reduced basis of points, one after the other

-- the elements with some leads, those before the rest, which go from the greatest to the least; s is the state before them
pub record Elements (s t : State) (points : Handle) (leads rest : List ℕ) (found : List Handle) : Type 0 where
  pub done : List ℕ
  pub split : reverse leads ≡ done ++ reverse rest
  pub grows : Grows s t
  pub holds : HoldsElements t s.vars (family s points) done found

module _ (s : State) (points : Handle) (leads : List ℕ) where
  abbrev P : Family
  P = family s points

  pub no_elements : (rest : List ℕ) → rest ≡ leads → Elements s s points leads rest []
  no_elements rest is = record {
    done = [];
    split = ap reverse (sym is);
    grows = Grows-refl s;
    holds = none_found s;
  }

  -- m is the least of the rest, and t the state before its element
  module _ (known : Knows s points) (are : All (λ m. (m < 2 ^ s.vars) × IsLead s.vars P m) (reverse leads))
      (planned : Covers s.plan (working_set s.vars (elements_list s.vars P (reverse leads)))) (t : State) (rest left : List ℕ) (m : ℕ)
      (found : List Handle) (cut : rest ≡ left ++ m ∷ []) (so_far : Elements s t points leads rest found) where
    turned : reverse leads ≡ so_far.done ++ (m ∷ reverse left)
    turned = so_far.split ∙ ap (λ xs. so_far.done ++ xs) (ap reverse cut ∙ reverse-append left (m ∷ []))

    is_lead : (m < 2 ^ s.vars) × IsLead s.vars P m
    is_lead =
        let here : has (so_far.done ++ (m ∷ reverse left)) m ≡ true =
        grind (arith, has-append so_far.done (m ∷ reverse left) m, has_head m (reverse left)) in
        All-has (λ m. (m < 2 ^ s.vars) × IsLead s.vars P m) (reverse leads) m are (rw turned here)

    same_points : family t points ≡ P
    same_points = Grows-family s t points so_far.grows known

    list_split : elements_list s.vars P (reverse leads) ≡ elements_list s.vars P so_far.done ++
        (basis_element_list s.vars m P ++ elements_list s.vars P (reverse left))
    list_split = ap (elements_list s.vars P) turned ∙ flat_map-append (λ m. basis_element_list s.vars m P) so_far.done (m ∷ reverse left)

    element_needs : Covers s.plan (working_set s.vars (basis_element_list s.vars m P))
    element_needs = covers_left s.vars s.plan (basis_element_list s.vars m P) _
        (covers_right s.vars s.plan (elements_list s.vars P so_far.done) _
        (subst (λ list. Covers s.plan (working_set s.vars list)) list_split planned))

    pub lead_below : m < 2 ^ t.vars
    lead_below = rw so_far.grows.vars is_lead.0

    pub lead_there : IsLead t.vars (family t points) m
    lead_there = rw (so_far.grows.vars, same_points) is_lead.1

    pub element_planned : Covers t.plan (working_set t.vars (basis_element_list t.vars m (family t points)))
    element_planned = rw (so_far.grows.vars, same_points, so_far.grows.plan) element_needs

    pub one_element : {u : State} {h : Handle} {more : List Handle} → Gives t u (Ok h) (basis_element_of t.vars m (family t points))
        (working_set t.vars (basis_element_list t.vars m (family t points)))
        → more ≡ found ++ h ∷ [] → Elements s u points leads left more
    one_element {u = u} {h = h} {more = more} gives items = record {
      done = so_far.done ++ m ∷ [];
      split = turned ∙ sym (append_assoc so_far.done (m ∷ []) (reverse left));
      grows = Grows-trans s t u so_far.grows gives.grows;
      holds = one_found m gives.grows so_far.holds (rw (so_far.grows.vars, same_points) at gives.ok)
          (rw (so_far.grows.vars, same_points) at gives.held) items;
    }

  -- after the last one
  pub all_elements : {t : State} {rest : List ℕ} {found : List Handle} → length rest ≡ 0 → Elements s t points leads rest found
      → HoldsElements t s.vars P (reverse leads) found
  all_elements {t = t} {rest = rest} {found = found} none so_far =
      let all : reverse leads ≡ so_far.done = so_far.split
      ∙ (ap (λ r. so_far.done ++ reverse r) (nil_from_length rest none) ∙ append-nil so_far.done) in
      subst (λ ms. HoldsElements t s.vars P ms found) (sym all) so_far.holds

-- ---- phase 2; s is the state at the call, and t the one after phase 1

module _ (s : State) (d : Description) (joining : Joining)
    (planned : Covers s.plan (working_set d.inputs (second_phase_list d joining))) where
  abbrev C : Family
  C = joint_points d joining

  pub phase_planned : Covers s.plan (working_set d.inputs (first_phase_list d joining))
  phase_planned = covers_left d.inputs s.plan (first_phase_list d joining) _ planned

  module _ (vars_are : s.vars ≡ d.inputs) (t : State) (one : Grows s t) (found : Joint) (is : HoldsJoint t d joining found) (leads : List ℕ)
      (leads_are : reverse leads ≡ joint_leads d joining) where
    points_are : family t found.points ≡ C
    points_are = Denotes-family t found.points C is.points

    pub elements_planned : Covers t.plan (working_set t.vars (elements_list t.vars (family t found.points) (reverse leads)))
    elements_planned = rw (points_are, one.vars, vars_are, one.plan, leads_are)
        (covers_right d.inputs s.plan (first_phase_list d joining) _ planned)

    pub are_leads : All (λ m. (m < 2 ^ t.vars) × IsLead t.vars (family t found.points) m) (reverse leads)
    are_leads = rw (points_are, one.vars, vars_are, leads_are)
        (All-from_has (λ m. (m < 2 ^ d.inputs) × IsLead d.inputs C m) (joint_leads d joining)
        (λ m i. (leads_are_minimal d.inputs C (joint_fits d joining) m).0 i))

    pub basis_held : {u : State} {elements : List Handle} → Grows t u
        → HoldsElements u t.vars (family t found.points) (reverse leads) elements → HoldsBasis u d joining elements
    basis_held {u = u} {elements = elements} two holds =
        let are = found_families holds in
        record {
          known = found_known holds;
          are = rw (points_are, leads_are, one.vars, vars_are) at are ∙ basis_listed d joining;
          held = covers_append d.inputs u.held (first_phase_list d joining) (elements_list d.inputs C (joint_leads d joining))
              (λ f i. two.held f (is.held f i)) (rw (points_are, leads_are, one.vars, vars_are) at holds.held);
        }

-- ---- the first limit that is passed

module _ (bits limit : ℕ) (d : Description) (joining : Joining) where
  abbrev Refuses : TermsRefusal → Type 0
  Refuses e = (basis : List Family) → IsJointBasis d joining basis → first_refused bits limit d joining basis ≡ Some e

  -- as many elements as leads
  leads_counted : length (joint_basis_of d joining) ≡ length (joint_leads d joining)
  leads_counted = ap length (sym (basis_listed d joining)) ∙ length-map (joint_leads d joining) _

  -- a fact of the basis that is found is one of each
  of_each : {X : Type 0} (f : List Family → X) (x : X) → f (joint_basis_of d joining) ≡ x → (basis : List Family)
      → IsJointBasis d joining basis → f basis ≡ x
  of_each f x at basis is = ap f (joint_unique d joining basis (joint_basis_of d joining) is (joint_exists d joining)) ∙ at

  abbrev refusal : List Family → Option TermsRefusal
  refusal = first_refused bits limit d joining

  many_leads : {planned : ℕ} → FindsLeads planned (2 ^ bits) limit d joining (Err stops.Over) → Refuses stops.Over
  many_leads h = of_each refusal (Some stops.Over) (grind (arith, nat_tests, h.terms refl, leads_counted))

  -- phase 1 was stopped on a table of its own, or on one that is not full
  pub stopped_first : (e : TermsRefusal) → FindsLeads (first_nodes d joining) (2 ^ bits) limit d joining (Err e) → e ≢ stops.Memory
      → Refuses e
  stopped_first stops.Full h other = of_each refusal (Some stops.Full) (grind (arith, nat_tests, h.exhausted refl))
  stopped_first stops.Over h other = many_leads h
  stopped_first stops.Memory h other = absurd (other refl)

  pub stopped_early : {planned : ℕ} (e : TermsRefusal) → FindsLeads planned (2 ^ bits) limit d joining (Err e) → e ≢ stops.Memory
      → e ≢ stops.Full → Refuses e
  stopped_early stops.Full h other others = absurd (others refl)
  stopped_early stops.Over h other others = many_leads h
  stopped_early stops.Memory h other others = absurd (other refl)

  module _ {planned : ℕ} (found : Family) (first : FindsLeads planned (2 ^ bits) limit d joining (Ok found)) where
    stopped_last : (e : TermsRefusal) → FindsBasis (2 ^ bits) limit d joining (Err e) → e ≢ stops.Memory → Refuses e
    stopped_last stops.Full h other = of_each refusal (Some stops.Full)
        (grind (arith, nat_tests, first.fits, first.few, leads_counted, h.exhausted refl))
    stopped_last stops.Over h other = of_each refusal (Some stops.Over)
        (grind (arith, nat_tests, first.fits, first.few, leads_counted, h.terms refl))
    stopped_last stops.Memory h other = absurd (other refl)

    pub not_found : (r : Result (List Family) TermsRefusal) → FindsBasis (2 ^ bits) limit d joining r
        → IfErr r (λ e. e ≢ stops.Memory → Refuses e)
    not_found (Ok lists) h = tt
    not_found (Err e) h = stopped_last e h

    pub found_within : (r : Result (List Family) TermsRefusal) → FindsBasis (2 ^ bits) limit d joining r
        → IfOk r (λ lists. refusal (map reverse lists) ≡ None)
    found_within (Err e) h = tt
    found_within (Ok lists) h = rw h.answer (grind (arith, nat_tests, first.fits, first.few, leads_counted, h.fits, h.few))

    pub found_joint : (r : Result (List Family) TermsRefusal) → FindsBasis (2 ^ bits) limit d joining r
        → IfOk r (λ lists. IsJointBasis d joining (map reverse lists))
    found_joint (Err e) h = tt
    found_joint (Ok lists) h = rw h.answer (joint_exists d joining)

-- ---- stores of 2^small slots, and of 2^bits, which are no fewer

module _ (small bits limit : ℕ) (more : 2 ^ small ≤ 2 ^ bits) (d : Description) (joining : Joining) where
  -- a basis that is within the limits with the fewer is with the more
  pub within_more : (r : Result (List Family) TermsRefusal)
      → IfOk r (λ lists. first_refused small limit d joining (map reverse lists) ≡ None)
      → IfOk r (λ lists. first_refused bits limit d joining (map reverse lists) ≡ None)
  within_more (Ok lists) none = grind (arith, nat_tests, none, more)
  within_more (Err e) none = tt

  -- and one that is refused for another cause than its nodes is refused for it
  pub refused_with_more : (e : TermsRefusal) → e ≢ stops.Full → (basis : List Family)
      → first_refused small limit d joining basis ≡ Some e → first_refused bits limit d joining basis ≡ Some e
  refused_with_more e other basis over = grind (arith, nat_tests, other, over, more)

-- ---- both phases in one store

-- the plan of phase 2 has what phase 1 needs
pub first_covered : {plan : List Family} (d : Description) (joining : Joining)
    → plan ≡ working_set d.inputs (second_phase_list d joining) → Covers plan (working_set d.inputs (first_phase_list d joining))
first_covered d joining is = rw is (covers_left d.inputs _ (first_phase_list d joining) _ (λ f i. i))

-- what a phase gives is told of its store's slots, and so of as many
module _ (d : Description) (joining : Joining) {slots others limit : ℕ} (is : slots ≡ others) where
  pub leads_by : {planned : ℕ} {r : Result Family TermsRefusal} → FindsLeads planned slots limit d joining r
      → FindsLeads planned others limit d joining r
  leads_by found = rw (← is) found

  pub basis_by : {r : Result (List Family) TermsRefusal} → FindsBasis slots limit d joining r → FindsBasis others limit d joining r
  basis_by found = rw (← is) found

-- ---- what the elements use

pub ruleset elements_rules = (no_elements, lead_below, one_element, all_elements, Grows-knows)
