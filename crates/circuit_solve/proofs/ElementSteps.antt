-- The two phases that find a basis: the points and their leads, and the elements one after the other.
use Rattle.std.proofs.Common.{◌≡◌, ◌∙◌, ℕ, ◌<◌, ◌^◌, None, Ok, Option, Some, List, [], ◌∷◌, ◌++◌, length, map, ap, append-nil}
use Rattle.std.proofs.Common.{append_assoc, refl, reverse, subst, sym, true, arith}
use Rattle.std.specs.Global.{Vec}
use Rattle.std.specs.List.{All}
use Rattle.std.proofs.lemmas.Grind.{flat_map-append}
use Rattle.std.proofs.lemmas.List.{nil_from_length, reverse-append}
use Rattle.lattice.specs.Words.{Covers, Family, IsLead, basis_element_list, basis_element_of, has, leads_of, reduced_basis_of, standard_of}
use Rattle.lattice.specs.Words.{working_set}
use Rattle.lattice.proofs.Diagrams.{covers_append, covers_left, covers_nil, covers_right}
use Rattle.lattice.proofs.Polynomials.{All-from_has, All-has, has-append, has_head, leads_are_minimal}
use Rattle.node_store.specs.Stores.{Denotes, Gives, Grows, Knows, State, family}
use Rattle.node_store.specs.declared.store.Handle.{Handle}
use Rattle.node_store.proofs.StoreLaws.{All_known-later, Denotes-family, Denotes-knows, Grows-family, Grows-knows, Grows-refl, Grows-trans}
use Rattle.node_store.proofs.StoreLaws.{Knows-denotes, families_later}
use Rattle.aig_reader.specs.Circuit.{Circuit}
use Rattle.std_monomials.specs.PointLeads.{point_leads_list}
use Rattle.circuit_solve.specs.Answers.{HoldsAnswers, HoldsPoints, answers_list, care_points}
use Rattle.circuit_solve.specs.Phases.{HoldsElements, HoldsFirst, HoldsSecond, points_or_all, points_or_all_list}
use Rattle.circuit_solve.specs.Solved.{all_points_list, basis_by, care_leads, elements_list, first_phase_list, second_phase_list}
use Rattle.circuit_solve.specs.declared.answers.Answered.{Answered}
use Rattle.circuit_solve.specs.declared.phases.FirstPhase.{FirstPhase}
use Rattle.circuit_solve.proofs.CareLaws.{points_fit}
use Rattle.circuit_solve.proofs.Found.{found_families, found_known, none_found, one_found}

-- ---- the points; s is the state after the answers

pub points_are_known : (s : State) (c : Circuit) (care : Option ℕ) (points : Option Handle) → HoldsPoints s c care points → (h : Handle)
    → points ≡ Some h → Knows s h
points_are_known s c None points holds h is = cc
points_are_known s c (Some output) None holds h is = absurd holds
points_are_known s c (Some output) (Some k) holds h is =
    let same : h ≡ k = cc in rw same (Denotes-knows s k (care_points c (Some output)) holds)

points_are : (s : State) (c : Circuit) (care : Option ℕ) (points : Option Handle) → HoldsPoints s c care points → s.vars ≡ c.inputs
    → points_or_all s points ≡ care_points c care
points_are s c None None holds vars = rw vars refl
points_are s c None (Some h) holds vars = cc
points_are s c (Some output) None holds vars = absurd holds
points_are s c (Some output) (Some h) holds vars = Denotes-family s h (care_points c (Some output)) holds

points_need : (s : State) (c : Circuit) (care : Option ℕ) (points : Option Handle) → HoldsPoints s c care points → s.vars ≡ c.inputs
    → points_or_all_list s.vars points ≡ all_points_list c care
points_need s c None None holds vars = rw vars refl
points_need s c None (Some h) holds vars = cc
points_need s c (Some output) None holds vars = absurd holds
points_need s c (Some output) (Some h) holds vars = refl

-- they are given
pub points_given : (s : State) (h : Handle) → Knows s h → Gives s s (Ok h) (family s h) (working_set s.vars [])
points_given s h known = record {
  grows = Grows-refl s;
  ok = Knows-denotes s h known;
  held = covers_nil s.vars s.held;
  quiet = refl;
  full = tt;
}

-- ---- phase 1; s is the state at the call, and t the one after the answers

-- the answers are planned
pub answers_planned : (c : Circuit) (care : Option ℕ) (fs : List Family) → Covers fs (working_set c.inputs (first_phase_list c care))
    → Covers fs (working_set c.inputs (answers_list c care))
answers_planned c care fs planned = covers_left c.inputs fs (answers_list c care) _ planned

module _ {s t : State} (c : Circuit) (care : Option ℕ) (vars_are : s.vars ≡ c.inputs)
    (planned : Covers s.plan (working_set c.inputs (first_phase_list c care))) (grows : Grows s t) (found : Answered)
    (holds : HoldsAnswers t c care found) where
  t_vars : t.vars ≡ c.inputs
  t_vars = grows.vars ∙ vars_are

  rest_planned : Covers t.plan (working_set c.inputs (all_points_list c care ++ point_leads_list c.inputs (care_points c care)))
  rest_planned = rw grows.plan (covers_right c.inputs s.plan (answers_list c care) _ planned)

  all_points : Covers t.plan (working_set c.inputs (all_points_list c care))
  all_points = covers_left c.inputs t.plan (all_points_list c care) _ rest_planned

  pub points_planned : Covers t.plan (working_set t.vars (points_or_all_list t.vars found.points))
  points_planned = subst (λ list. Covers t.plan (working_set t.vars list))
      (sym (points_need t c care found.points holds.points t_vars))
      (subst (λ n. Covers t.plan (working_set n (all_points_list c care))) (sym t_vars) all_points)

  -- u is the state after the points
  module _ {u : State} {points : Handle} (one : Gives t u (Ok points) (points_or_all t found.points)
      (working_set t.vars (points_or_all_list t.vars found.points))) where
    u_vars : u.vars ≡ c.inputs
    u_vars = one.grows.vars ∙ t_vars

    points_denote : Denotes u points (care_points c care)
    points_denote = subst (Denotes u points) (points_are t c care found.points holds.points t_vars) one.ok

    pub points_known : Knows u points
    points_known = Denotes-knows u points (care_points c care) points_denote

    family_is : family u points ≡ care_points c care
    family_is = Denotes-family u points (care_points c care) points_denote

    points_held : Covers u.held (working_set c.inputs (all_points_list c care))
    points_held = subst (λ n. Covers u.held (working_set n (all_points_list c care))) t_vars
        (subst (λ list. Covers u.held (working_set t.vars list)) (points_need t c care found.points holds.points t_vars) one.held)

    leads_need : (fs : List Family) → Covers fs (working_set c.inputs (point_leads_list c.inputs (care_points c care)))
        → Covers fs (working_set u.vars (point_leads_list u.vars (family u points)))
    leads_need fs covers = subst (λ f. Covers fs (working_set u.vars (point_leads_list u.vars f))) (sym family_is)
        (subst (λ n. Covers fs (working_set n (point_leads_list n (care_points c care)))) (sym u_vars) covers)

    leads_needed : (fs : List Family) → Covers fs (working_set u.vars (point_leads_list u.vars (family u points)))
        → Covers fs (working_set c.inputs (point_leads_list c.inputs (care_points c care)))
    leads_needed fs covers = subst (λ n. Covers fs (working_set n (point_leads_list n (care_points c care)))) u_vars
        (subst (λ f. Covers fs (working_set u.vars (point_leads_list u.vars f))) family_is covers)

    pub leads_planned : Covers u.plan (working_set u.vars (point_leads_list u.vars (family u points)))
    leads_planned = leads_need u.plan
        (rw one.grows.plan (covers_right c.inputs t.plan (all_points_list c care) _ rest_planned))

    -- v is the state after the leads
    pub first_held : {v : State} {leads : Handle} → Gives u v (Ok leads) (leads_of u.vars (standard_of u.vars (family u points)))
        (working_set u.vars (point_leads_list u.vars (family u points)))
        → HoldsFirst v c care (record { polynomials = found.polynomials; points = points; leads = leads })
    first_held {v} {leads} two = let later = Grows-trans t u v one.grows two.grows in record {
      known = All_known-later t v found.polynomials.items later holds.known;
      are = families_later t v found.polynomials.items later holds.known ∙ holds.are;
      points = two.grows.known points.0 (care_points c care) points_denote;
      leads = subst (λ f. Denotes v leads (leads_of c.inputs (standard_of c.inputs f))) family_is
          (subst (λ n. Denotes v leads (leads_of n (standard_of n (family u points)))) u_vars two.ok);
      held = covers_append c.inputs v.held (answers_list c care) _ (λ f i. later.held f (holds.held f i))
          (covers_append c.inputs v.held (all_points_list c care) (point_leads_list c.inputs (care_points c care))
          (λ f i. two.grows.held f (points_held f i)) (leads_needed v.held two.held));
    }

-- ---- the elements of the reduced basis of points, one after the other

-- the elements with some leads, those before the rest, which go from the greatest to the least; s is the state before them
pub record Elements (s t : State) (points : Handle) (leads rest : List ℕ) (found : List Handle) : Type 0 where
  pub done : List ℕ
  pub split : reverse leads ≡ done ++ reverse rest
  pub grows : Grows s t
  pub holds : HoldsElements t s.vars (family s points) done found

module _ (s : State) (points : Handle) (leads : List ℕ) where
  abbrev P : Family
  P = family s points

  pub no_elements : (rest : List ℕ) → rest ≡ leads → Elements s s points leads rest []
  no_elements rest is = record {
    done = [];
    split = ap reverse (sym is);
    grows = Grows-refl s;
    holds = none_found s;
  }

  -- m is the least of the rest, and t the state before its element
  module _ (known : Knows s points) (are : All (λ m. (m < 2 ^ s.vars) × IsLead s.vars P m) (reverse leads))
      (planned : Covers s.plan (working_set s.vars (elements_list s.vars P (reverse leads)))) (t : State) (rest left : List ℕ) (m : ℕ)
      (found : List Handle) (cut : rest ≡ left ++ m ∷ []) (so_far : Elements s t points leads rest found) where
    turned : reverse leads ≡ so_far.done ++ (m ∷ reverse left)
    turned = so_far.split ∙ ap (λ xs. so_far.done ++ xs) (ap reverse cut ∙ reverse-append left (m ∷ []))

    is_lead : (m < 2 ^ s.vars) × IsLead s.vars P m
    is_lead =
        let here : has (so_far.done ++ (m ∷ reverse left)) m ≡ true =
        grind (arith, has-append so_far.done (m ∷ reverse left) m, has_head m (reverse left)) in
        All-has (λ m. (m < 2 ^ s.vars) × IsLead s.vars P m) (reverse leads) m are (rw turned here)

    same_points : family t points ≡ P
    same_points = Grows-family s t points so_far.grows known

    list_split : elements_list s.vars P (reverse leads) ≡ elements_list s.vars P so_far.done ++
        (basis_element_list s.vars m P ++ elements_list s.vars P (reverse left))
    list_split = ap (elements_list s.vars P) turned ∙ flat_map-append (λ m. basis_element_list s.vars m P) so_far.done (m ∷ reverse left)

    element_needs : Covers s.plan (working_set s.vars (basis_element_list s.vars m P))
    element_needs = covers_left s.vars s.plan (basis_element_list s.vars m P) _
        (covers_right s.vars s.plan (elements_list s.vars P so_far.done) _
        (subst (λ list. Covers s.plan (working_set s.vars list)) list_split planned))

    pub lead_below : m < 2 ^ t.vars
    lead_below = rw so_far.grows.vars is_lead.0

    pub lead_there : IsLead t.vars (family t points) m
    lead_there = rw (so_far.grows.vars, same_points) is_lead.1

    pub element_planned : Covers t.plan (working_set t.vars (basis_element_list t.vars m (family t points)))
    element_planned = rw (so_far.grows.vars, same_points, so_far.grows.plan) element_needs

    pub one_element : {u : State} {h : Handle} {more : List Handle} → Gives t u (Ok h) (basis_element_of t.vars m (family t points))
        (working_set t.vars (basis_element_list t.vars m (family t points)))
        → more ≡ found ++ h ∷ [] → Elements s u points leads left more
    one_element {u = u} {h = h} {more = more} gives items = record {
      done = so_far.done ++ m ∷ [];
      split = turned ∙ sym (append_assoc so_far.done (m ∷ []) (reverse left));
      grows = Grows-trans s t u so_far.grows gives.grows;
      holds = one_found m gives.grows so_far.holds (rw (so_far.grows.vars, same_points) at gives.ok)
          (rw (so_far.grows.vars, same_points) at gives.held) items;
    }

  -- after the last one
  pub all_elements : {t : State} {rest : List ℕ} {found : List Handle} → length rest ≡ 0 → Elements s t points leads rest found
      → HoldsElements t s.vars P (reverse leads) found
  all_elements {t = t} {rest = rest} {found = found} none so_far =
      let all : reverse leads ≡ so_far.done = so_far.split
      ∙ (ap (λ r. so_far.done ++ reverse r) (nil_from_length rest none) ∙ append-nil so_far.done) in
      subst (λ ms. HoldsElements t s.vars P ms found) (sym all) so_far.holds

-- ---- phase 2; s is the state at the call, and t the one after phase 1

-- phase 1 is planned
pub first_planned : (c : Circuit) (care : Option ℕ) (fs : List Family) → Covers fs (working_set c.inputs (second_phase_list c care))
    → Covers fs (working_set c.inputs (first_phase_list c care))
first_planned c care fs planned = covers_left c.inputs fs (first_phase_list c care) _ planned

-- the reduced basis has an element for each lead
pub basis_listed : (c : Circuit) (care : Option ℕ)
    → map (λ m. basis_element_of c.inputs m (care_points c care)) (care_leads c care) ≡ basis_by c care true
unfolding reduced_basis_of
basis_listed c care = refl

module _ {s t : State} (c : Circuit) (care : Option ℕ) (vars_are : s.vars ≡ c.inputs)
    (planned : Covers s.plan (working_set c.inputs (second_phase_list c care))) (one : Grows s t) (found : FirstPhase)
    (is : HoldsFirst t c care found) (leads : List ℕ) (leads_are : reverse leads ≡ care_leads c care) where
  abbrev C : Family
  C = care_points c care

  vars_later : t.vars ≡ c.inputs
  vars_later = one.vars ∙ vars_are

  here_is : family t found.points ≡ C
  here_is = Denotes-family t found.points C is.points

  pub here_known : Knows t found.points
  here_known = Denotes-knows t found.points C is.points

  pub elements_planned : Covers t.plan (working_set t.vars (elements_list t.vars (family t found.points) (reverse leads)))
  elements_planned = rw (here_is, vars_later, one.plan, leads_are)
      (covers_right c.inputs s.plan (first_phase_list c care) _ planned)

  pub are_leads : All (λ m. (m < 2 ^ t.vars) × IsLead t.vars (family t found.points) m) (reverse leads)
  are_leads = rw (here_is, vars_later, leads_are)
      (All-from_has (λ m. (m < 2 ^ c.inputs) × IsLead c.inputs C m) (care_leads c care)
      (λ m i. (leads_are_minimal c.inputs C (points_fit c care) m).0 i))

  -- u is the state after the elements
  pub second_held : {u : State} {elements : Vec Handle} → Grows t u
      → HoldsElements u t.vars (family t found.points) (reverse leads) elements.items
      → HoldsSecond u c care (record { polynomials = found.polynomials; elements = elements })
  second_held {u} {elements} two holds =
      let are = found_families holds in
      record {
        known = All_known-later t u found.polynomials.items two is.known;
        are = families_later t u found.polynomials.items two is.known ∙ is.are;
        elements_known = found_known holds;
        elements_are = rw (here_is, leads_are, vars_later) at are ∙ basis_listed c care;
        held = covers_append c.inputs u.held (first_phase_list c care) (elements_list c.inputs C (care_leads c care))
            (λ f i. two.held f (is.held f i)) (rw (here_is, leads_are, vars_later) at holds.held);
      }

-- ---- what the elements use

pub ruleset elements_rules = (no_elements, lead_below, one_element, all_elements, Grows-knows)
