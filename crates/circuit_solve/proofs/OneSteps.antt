-- The polynomials and the points that are asked for, the least points at which polynomials are 1, one after the other, and what the search
-- for those of a circuit gives.
use Rattle.std.proofs.Common.{◌≡◌, ◌∙◌, ℕ, ◌+◌, ◌<◌, ◌≤◌, Err, None, Ok, Option, Result, Some, List, [], ◌∷◌, ◌++◌, length, map, take}
use Rattle.std.proofs.Common.{ap, arith, get_or, refl, subst, sym}
use Rattle.std.specs.Prelude.{IfOk, IsErrOf, OnOk}
use Rattle.std.specs.Global.{Vec}
use Rattle.std.specs.List.{All, remove}
use Rattle.std.proofs.lemmas.List.{flat_map_more, get_or-map, length-map, map_more, take_more}
use Rattle.std.proofs.lemmas.Result.{on_ok_weaker}
use Rattle.lattice.specs.Words.{Covers, Family, ones_list, ones_of, power, sub, working_set}
use Rattle.lattice.specs.declared.op.Op.TheVariants.{Ones}
use Rattle.lattice.proofs.Diagrams.{covers_append, covers_head, covers_left, covers_nil, covers_one, covers_part, covers_right, part_at}
use Rattle.node_store.specs.Stores.{Builds, Denotes, Gives, Grows, IsFull, IsSound, Knows, Reads, State, family, needs_of, no_handle}
use Rattle.node_store.specs.declared.refusal.SolveRefusal.{SolveRefusal}
use Rattle.node_store.specs.declared.refusal.SolveRefusal.TheVariants as stops
use Rattle.node_store.specs.declared.store.Handle.{Handle}
use Rattle.node_store.proofs.StoreLaws.{All_known-later, Denotes-family, Denotes-knows, Grows-family, Grows-refl, Grows-trans}
use Rattle.node_store.proofs.StoreLaws.{families_later, fits}
use Rattle.aig_reader.specs.Circuit.{Circuit}
use Rattle.bool_poly.proofs.OnesLemmas.{needs_ones}
use Rattle.diagram_measures.specs.Measured.{least_member_of}
use Rattle.gate_build.specs.Built.{ArePolynomials}
use Rattle.gate_build.specs.Polynomials.{polynomial_of}
use Rattle.gate_build.specs.Steps.{circuit_list, circuit_needs}
use Rattle.circuit_solve.specs.Answers.{care_points, output_polynomials}
use Rattle.circuit_solve.specs.Laws.{IsAsked}
use Rattle.circuit_solve.specs.Ones.{AreLeastOnes, FindsLeastOnes, HoldsAsked, asked_list, asked_polynomials, least_ones_by, one_list}
use Rattle.circuit_solve.specs.Ones.{ones_lists}
use Rattle.circuit_solve.specs.Reduced.{points_list}
use Rattle.circuit_solve.specs.declared.ones.AskedOutputs.{AskedOutputs}
use Rattle.circuit_solve.proofs.AnswerSteps.{output_within, outputs_are, outputs_known}
use Rattle.circuit_solve.proofs.Lists.{All-remove, map-remove}
use Rattle.circuit_solve.proofs.OneLaws.{ones_are_least}

-- ---- what is asked for; s is the state at the call, and t the one after the outputs' polynomials

-- the polynomials of the outputs are planned
pub outputs_are_planned : (c : Circuit) (care : Option ℕ) (fs : List Family) → Covers fs (working_set c.inputs (asked_list c care))
    → Covers fs (circuit_needs c)
outputs_are_planned c care fs planned = covers_left c.inputs fs (circuit_list c) _ planned

module _ {s t : State} (c : Circuit) (vars_are : s.vars ≡ c.inputs) (grows : Grows s t) (handles : Vec Handle)
    (are : ArePolynomials t c handles.items) where
  t_vars : t.vars ≡ c.inputs
  t_vars = grows.vars ∙ vars_are

  -- each point is cared for
  module _ {care : Option ℕ} (none : care ≡ None) where
    pub power_planned : Covers s.plan (working_set c.inputs (asked_list c care)) → Covers t.plan (sub t.vars (power t.vars))
    power_planned planned =
        let here = subst (λ o. Covers s.plan (working_set c.inputs (asked_list c o))) none planned in
        let all = covers_right c.inputs s.plan (circuit_list c) (power c.inputs ∷ []) here in
        rw (grows.plan, t_vars) (covers_head c.inputs s.plan [] (power c.inputs) all)

    -- u is the state after all points
    pub asked_all : {u : State} {points : Handle} → Covers t.held (circuit_needs c) → Builds t u (Ok points) (power t.vars)
        → HoldsAsked u c care (record { polynomials = handles; points = points })
    asked_all {u} {points} held one =
        let known = outputs_known t c handles are in
        let all = covers_one t.vars u.held (power t.vars) one.held in
        rw none (record {
          known = All_known-later t u handles.items one.grows known;
          are = families_later t u handles.items one.grows known ∙ outputs_are t c handles are;
          points = subst (λ n. Denotes u points (power n)) t_vars one.ok;
          held = covers_append c.inputs u.held (circuit_list c) (power c.inputs ∷ []) (λ f i. one.grows.held f (held f i))
              (subst (λ n. Covers u.held (working_set n (power n ∷ []))) t_vars all);
        })

  -- each point is at which the output is 1
  module _ {care : Option ℕ} {output : ℕ} (some : care ≡ Some output) (less : output < length c.outputs) (own : Handle)
      (own_is : own ≡ get_or handles.items output own) where
    abbrev own_family : Family
    own_family = get_or (output_polynomials c) output []

    within : output < length handles.items
    within = output_within t c handles are output less

    pub own_is_known : Knows t own
    own_is_known = subst (Knows t) (sym own_is) (outputs_known t c handles are output own within)

    own_denotes : family t own ≡ own_family
    own_denotes = ap (family t) own_is ∙ (sym (get_or-map (family t) handles.items output own [] within)
        ∙ ap (λ fs. get_or fs output []) (outputs_are t c handles are))

    pub own_is_planned : Covers s.plan (working_set c.inputs (asked_list c care))
        → Covers t.plan (working_set t.vars (points_list t.vars (family t own)))
    own_is_planned planned =
        let here = subst (λ o. Covers s.plan (working_set c.inputs (asked_list c o))) some planned in
        rw (own_denotes, grows.plan, t_vars) (covers_right c.inputs s.plan (circuit_list c) (points_list c.inputs own_family) here)

    -- u is the state after these points
    pub asked_others : {u : State} {points : Handle} {others : Vec Handle} → Covers t.held (circuit_needs c)
        → others.items ≡ remove handles.items output
        → Gives t u (Ok points) (ones_of t.vars (family t own) (power t.vars)) (working_set t.vars (points_list t.vars (family t own)))
        → HoldsAsked u c care (record { polynomials = others; points = points })
    asked_others {u} {points} {others} held others_are one =
        let known : All (Knows t) others.items =
        subst (All (Knows t)) (sym others_are) (All-remove (Knows t) handles.items output (outputs_known t c handles are)) in
        let same : map (family t) others.items ≡ asked_polynomials c (Some output) =
        ap (map (family t)) others_are ∙ (map-remove (family t) handles.items output
        ∙ (ap (λ fs. remove fs output) (outputs_are t c handles are) ∙ sym (map-remove (polynomial_of c) c.outputs output))) in
        rw some (record {
          known = All_known-later t u others.items one.grows known;
          are = families_later t u others.items one.grows known ∙ same;
          points = subst (λ f. Denotes u points (ones_of c.inputs f (power c.inputs))) own_denotes
              (subst (λ n. Denotes u points (ones_of n (family t own) (power n))) t_vars one.ok);
          held = covers_append c.inputs u.held (circuit_list c) (points_list c.inputs own_family) (λ f i. one.grows.held f (held f i))
              (subst (λ f. Covers u.held (working_set c.inputs (points_list c.inputs f))) own_denotes
              (subst (λ n. Covers u.held (working_set n (points_list n (family t own)))) t_vars one.held));
        })

-- ---- one after the other; s is the state before them

module _ (s : State) (points : Handle) (polynomials : List Handle) where
  abbrev P : Family
  P = family s points

  abbrev F : List Family
  F = map (family s) polynomials

  -- those of the first i are found; t is the state after them
  pub record HasOnes (t : State) (i : ℕ) (found : List (Option ℕ)) : Type 0 where
    pub grows : Grows s t
    pub are : found ≡ least_ones_by s.vars P (take i F)
    pub held : Covers t.held (working_set s.vars (ones_lists s.vars P (take i F)))

  pub no_ones : HasOnes s 0 []
  no_ones = record { grows = Grows-refl s; are = refl; held = covers_nil s.vars s.held }

  -- t is the state before the next one
  module _ (points_known : Knows s points) (known : All (Knows s) polynomials)
      (planned : Covers s.plan (working_set s.vars (ones_lists s.vars P F))) {t : State} (i : ℕ) {found : List (Option ℕ)}
      (so_far : HasOnes t i found) (less : i < length polynomials) where
    abbrev h : Handle
    h = get_or polynomials i no_handle

    abbrev f : Family
    f = get_or F i []

    here_known : Knows s h
    here_known = known i no_handle less

    less' : i < length F
    less' = rw (length-map polynomials (family s)) less

    f_is : family s h ≡ f
    f_is = sym (get_or-map (family s) polynomials i no_handle [] less)

    same_points : family t points ≡ P
    same_points = Grows-family s t points so_far.grows points_known

    same_polynomial : family t h ≡ f
    same_polynomial = Grows-family s t h so_far.grows here_known ∙ f_is

    needs_are : needs_of t Ones h points.0 ≡ working_set s.vars (ones_list s.vars f P)
    needs_are = needs_ones t.vars (family t h) (family t points) points.0 ∙ rw (so_far.grows.vars, same_points, same_polynomial) refl

    pub ones_planned_there : Covers t.plan (needs_of t Ones h points.0)
    ones_planned_there = rw (needs_are, so_far.grows.plan)
        (covers_part s.vars s.plan (ones_lists s.vars P F) (ones_list s.vars f P) planned
        (part_at (λ p. ones_list s.vars p P) F i [] less'))

    -- u is the state after its points
    module _ {u : State} {ones : Handle} (gives : Gives t u (Ok ones) (ones_of t.vars (family t h) (family t points))
        (needs_of t Ones h points.0)) where
      ones_are : family u ones ≡ ones_of s.vars f P
      ones_are = Denotes-family u ones (ones_of t.vars (family t h) (family t points)) gives.ok
          ∙ rw (so_far.grows.vars, same_points, same_polynomial) refl

      needed_held : Covers u.held (working_set s.vars (ones_list s.vars f P))
      needed_held = subst (λ list. Covers u.held list) needs_are gives.held

      -- v is the state after the least of these
      module _ {v : State} (reads : Reads u v) where
        later : Grows t v
        later = Grows-trans t u v gives.grows reads.grows

        pub ones_grow : Grows s v
        ones_grow = Grows-trans s t v so_far.grows later

        pub one_more : {o : Option ℕ} {more : List (Option ℕ)} → o ≡ least_member_of (family u ones) → more ≡ found ++ o ∷ []
            → HasOnes v (i + 1) more
        one_more {o} {more} is items = record {
          grows = ones_grow;
          are = items ∙ rw (so_far.are, is, ones_are) (sym (map_more (λ p. least_member_of (ones_of s.vars p P)) F i [] less'));
          held = rw (take_more F i [] less', sym (flat_map_more (λ p. ones_list s.vars p P) [] (take i F) f))
              (covers_append s.vars v.held _ (ones_list s.vars f P) (λ g j. later.held g (so_far.held g j))
              (λ g j. reads.grows.held g (needed_held g j)));
        }

-- ---- those of a circuit; s is the state at the call, and t the one after what is asked for

-- what is asked for is planned
pub asked_planned : {plan : List Family} (c : Circuit) (care : Option ℕ) → plan ≡ working_set c.inputs (one_list c care)
    → Covers plan (working_set c.inputs (asked_list c care))
asked_planned c care is = rw is (covers_left c.inputs _ (asked_list c care) _ (λ f i. i))

module _ {s t : State} (c : Circuit) (care : Option ℕ) (vars_are : s.vars ≡ c.inputs)
    (plan_is : s.plan ≡ working_set c.inputs (one_list c care)) (grows : Grows s t) (asked : AskedOutputs)
    (holds : HoldsAsked t c care asked) (given : List Handle) (same_handles : given ≡ asked.polynomials.items) where
  pub points_are_known : Knows t asked.points
  points_are_known = Denotes-knows t asked.points (care_points c care) holds.points

  vars_later : t.vars ≡ c.inputs
  vars_later = grows.vars ∙ vars_are

  points_are : family t asked.points ≡ care_points c care
  points_are = Denotes-family t asked.points (care_points c care) holds.points

  polynomials_are : map (family t) given ≡ asked_polynomials c care
  polynomials_are = ap (map (family t)) same_handles ∙ holds.are

  abbrev last_list : List Family
  last_list = ones_lists c.inputs (care_points c care) (asked_polynomials c care)

  lists_are : working_set t.vars (ones_lists t.vars (family t asked.points) (map (family t) given)) ≡ working_set c.inputs last_list
  lists_are = rw (vars_later, points_are, polynomials_are) refl

  pub last_planned : Covers t.plan (working_set t.vars (ones_lists t.vars (family t asked.points) (map (family t) given)))
  last_planned = rw (lists_are, grows.plan, plan_is) (covers_right c.inputs _ (asked_list c care) last_list (λ f i. i))

  -- u is the state after the least points
  pub least_given : {u : State} (r : Result (Vec (Option ℕ)) SolveRefusal) → IsSound u → Grows t u
      → IfOk r (λ found. found.items ≡ least_ones_by t.vars (family t asked.points) (map (family t) given))
      → OnOk r (Covers u.held (working_set t.vars (ones_lists t.vars (family t asked.points) (map (family t) given))))
      → (IsErrOf r stops.Full → IsFull t u) → FindsLeastOnes s.capacity c care r
  least_given {u} (Ok found) sound later are held full =
      let first : Covers u.held (working_set c.inputs (asked_list c care)) = λ f i. later.held f (holds.held f i) in
      let all = covers_append c.inputs u.held (asked_list c care) last_list first (subst (Covers u.held) lists_are held) in
      record {
        found = are ∙ rw (vars_later, points_are, polynomials_are) refl;
        fits = omega (arith, fits u c.inputs (one_list c care) sound all, grows.capacity, later.capacity);
        exhausted = λ e. cc;
      }
  least_given {u} (Err e) sound later are held full = record {
    found = tt;
    fits = tt;
    exhausted = λ is. omega (arith, (full is).over, grows.capacity, later.capacity, ap length (later.plan ∙ (grows.plan ∙ plan_is)));
  }

-- ---- on a greater table

-- what is found but for want of slots is found with more
pub ones_with_more : {slots more : ℕ} (c : Circuit) (care : Option ℕ) (r : Result (Vec (Option ℕ)) SolveRefusal) → slots ≤ more
    → (r ≡ Err stops.Full → ⊥) → FindsLeastOnes slots c care r → FindsLeastOnes more c care r
ones_with_more c care r less other gives = record {
  found = gives.found;
  fits = on_ok_weaker r (λ fits. omega (arith, fits, less)) gives.fits;
  exhausted = λ e. absurd (other e);
}

-- ---- the points are those of the circuit

pub ones_found : {slots : ℕ} (c : Circuit) (care : Option ℕ) → IsAsked c care → (r : Result (Vec (Option ℕ)) SolveRefusal)
    → FindsLeastOnes slots c care r → IfOk r (λ found. AreLeastOnes c care found.items)
ones_found c care asks (Err e) gives = tt
ones_found c care asks (Ok found) gives = subst (AreLeastOnes c care) (sym gives.found) (ones_are_least c care asks)
