-- The least polynomials with the values of given ones at points, one after the other, and the answers of a circuit.
use Rattle.std.proofs.Common.{◌≡◌, ◌∙◌, ℕ, ◌+◌, ◌<◌, ◌≤◌, None, Ok, Option, Some, List, [], ◌∷◌, ◌++◌, length, map, take, get_or, ap, sym}
use Rattle.std.proofs.Common.{refl, subst}
use Rattle.std.specs.Global.{Vec}
use Rattle.std.specs.List.{All, flat_map, remove}
use Rattle.std.proofs.lemmas.List.{get_or-map, take_all, take_more}
use Rattle.std.proofs.lemmas.List.Folds.{flat_map-map}
use Rattle.std.proofs.lemmas.Slice.Zip.{AllZip-long}
use Rattle.lattice.specs.Words.{Covers, Family, ones_of, power, working_set}
use Rattle.lattice.proofs.Diagrams.{covers_append, covers_left, covers_part, covers_right, part_at}
use Rattle.node_store.specs.Stores.{Denotes, Gives, Grows, Knows, State, family, no_handle}
use Rattle.node_store.specs.declared.store.Handle.{Handle}
use Rattle.node_store.proofs.StoreLaws.{All_known-later, Denotes-family, Denotes-knows, Grows-family, Grows-knows, Grows-refl, Grows-trans}
use Rattle.node_store.proofs.StoreLaws.{families_later}
use Rattle.aig_reader.specs.Circuit.{Circuit}
use Rattle.gate_build.specs.Built.{ArePolynomials}
use Rattle.gate_build.specs.Polynomials.{polynomial_of}
use Rattle.gate_build.specs.Steps.{circuit_list, circuit_needs}
use Rattle.circuit_solve.specs.Answers.{HoldsAnswers, HoldsCare, answers_list, care_list, output_polynomials, points_by}
use Rattle.circuit_solve.specs.Found.{AreFound}
use Rattle.circuit_solve.specs.Reduced.{points_list, reduced, values_list}
use Rattle.circuit_solve.specs.declared.answers.Answered.{Answered}
use Rattle.circuit_solve.proofs.Found.{all_families, all_known, found_families, found_known, none_found, one_found}
use Rattle.circuit_solve.proofs.Lists.{All-remove, map-remove, map_twice}

-- ---- the least polynomials with the values of given ones; s is the state before them

module _ (s : State) (points : Handle) (given : List Handle) where
  abbrev P : Family
  P = family s points

  abbrev Reduced : Handle → Family
  Reduced h = reduced s.vars P (family s h)

  abbrev Needed : Handle → List Family
  Needed h = values_list s.vars P (family s h)

  -- those of the first i are found; t is the state after them
  pub record Reduces (t : State) (i : ℕ) (found : List Handle) : Type 0 where
    pub grows : Grows s t
    pub are : AreFound t s.vars Reduced Needed (take i given) found

  pub none_reduced : Reduces s 0 []
  none_reduced = record { grows = Grows-refl s; are = none_found s }

  -- t is the state before that of the next one
  module _ (points_known : Knows s points) (known : All (Knows s) given)
      (planned : Covers s.plan (working_set s.vars (flat_map Needed given))) {t : State} (i : ℕ) {found : List Handle}
      (so_far : Reduces t i found) (less : i < length given) where
    abbrev h : Handle
    h = get_or given i no_handle

    here_known : Knows s h
    here_known = known i no_handle less

    pub points_later : Knows t points
    points_later = Grows-knows s t points so_far.grows points_known

    pub given_later : Knows t h
    given_later = Grows-knows s t h so_far.grows here_known

    same_points : family t points ≡ P
    same_points = Grows-family s t points so_far.grows points_known

    same_given : family t h ≡ family s h
    same_given = Grows-family s t h so_far.grows here_known

    part_planned : Covers s.plan (working_set s.vars (Needed h))
    part_planned = covers_part s.vars s.plan (flat_map Needed given) (Needed h) planned
        (part_at Needed given i no_handle less)

    pub value_planned : Covers t.plan (working_set t.vars (values_list t.vars (family t points) (family t h)))
    value_planned = rw (so_far.grows.vars, same_points, same_given, so_far.grows.plan) part_planned

    pub one_reduced : {u : State} {r : Handle} {more : List Handle}
        → Gives t u (Ok r) (reduced t.vars (family t points) (family t h))
        (working_set t.vars (values_list t.vars (family t points) (family t h)))
        → more ≡ found ++ r ∷ [] → Reduces u (i + 1) more
    one_reduced {u} {r} {more} gives items =
        record {
          grows = Grows-trans s t u so_far.grows gives.grows;
          are = rw (take_more given i no_handle less) (one_found h gives.grows so_far.are
              (rw (so_far.grows.vars, same_points, same_given) at gives.ok)
              (rw (so_far.grows.vars, same_points, same_given) at gives.held) items);
        }

  -- after the last one
  pub all_reduced : {t : State} (i : ℕ) {found : List Handle} → length given ≤ i → Reduces t i found
      → AreFound t s.vars Reduced Needed given found
  all_reduced i all so_far = rw (take_all i given all) at so_far.are

-- ---- with care; s is the state at the call, and t the one after the points

same_needs : {n m : ℕ} {P Q : Family} {xs ys : List Family} → m ≡ n → Q ≡ P → xs ≡ ys
    → flat_map (values_list m Q) xs ≡ flat_map (values_list n P) ys
same_needs vars points are = rw (vars, points, are) refl

same_reduced : {n m : ℕ} {P Q : Family} {xs ys : List Family} → m ≡ n → Q ≡ P → xs ≡ ys → map (reduced m Q) xs ≡ map (reduced n P) ys
same_reduced vars points are = rw (vars, points, are) refl

module _ (s : State) (polynomials : List Handle) (output : ℕ) (less : output < length polynomials) (known : All (Knows s) polynomials)
    (planned : Covers s.plan (working_set s.vars (care_list s.vars (map (family s) polynomials) output))) (own : Handle)
    (own_is : own ≡ get_or polynomials output own) where
  abbrev F : List Family
  F = map (family s) polynomials

  abbrev own_family : Family
  own_family = get_or F output []

  pub own_known : Knows s own
  own_known = subst (Knows s) (sym own_is) (known output own less)

  own_denotes : family s own ≡ own_family
  own_denotes = ap (family s) own_is ∙ sym (get_or-map (family s) polynomials output own [] less)

  pub own_planned : Covers s.plan (working_set s.vars (points_list s.vars (family s own)))
  own_planned = subst (λ f. Covers s.plan (working_set s.vars (points_list s.vars f))) (sym own_denotes)
      (covers_left s.vars s.plan (points_list s.vars own_family) _ planned)

  module _ (others : List Handle) (others_are : others ≡ remove polynomials output) {t : State} {points : Handle}
      (one : Gives s t (Ok points) (ones_of s.vars (family s own) (power s.vars))
      (working_set s.vars (points_list s.vars (family s own)))) where
    abbrev C : Family
    C = points_by s.vars F output

    points_denote : Denotes t points C
    points_denote = subst (λ f. Denotes t points (ones_of s.vars f (power s.vars))) own_denotes one.ok

    pub points_known : Knows t points
    points_known = Denotes-knows t points C points_denote

    points_are : family t points ≡ C
    points_are = Denotes-family t points C points_denote

    points_held : Covers t.held (working_set s.vars (points_list s.vars own_family))
    points_held = subst (λ f. Covers t.held (working_set s.vars (points_list s.vars f))) own_denotes one.held

    others_here : All (Knows s) others
    others_here = subst (All (Knows s)) (sym others_are) (All-remove (Knows s) polynomials output known)

    pub others_known : All (Knows t) others
    others_known = All_known-later s t others one.grows others_here

    families_are : map (family t) others ≡ remove F output
    families_are = families_later s t others one.grows others_here ∙ (ap (map (family s)) others_are
        ∙ map-remove (family s) polynomials output)

    needs_are : flat_map (λ h. values_list t.vars (family t points) (family t h)) others ≡ flat_map (values_list s.vars C) (remove F output)
    needs_are = sym (flat_map-map (values_list t.vars (family t points)) (family t) others)
        ∙ same_needs one.grows.vars points_are families_are

    pub others_planned : Covers t.plan (working_set t.vars (flat_map (λ h. values_list t.vars (family t points) (family t h)) others))
    others_planned = rw (needs_are, one.grows.plan, one.grows.vars)
        (covers_right s.vars s.plan (points_list s.vars own_family) _ planned)

    pub care_held : {u : State} {found : Vec Handle} → Grows t u
        → AreFound u t.vars (λ h. reduced t.vars (family t points) (family t h))
        (λ h. values_list t.vars (family t points) (family t h)) others found.items
        → HoldsCare u s.vars F output (record { polynomials = found; points = Some points })
    care_held {u} {found} grows are = record {
      known = found_known are;
      are = found_families are ∙ (map_twice (reduced t.vars (family t points)) (family t) others
          ∙ same_reduced one.grows.vars points_are families_are);
      points = grows.known points.0 C points_denote;
      held = covers_append s.vars u.held (points_list s.vars own_family) (flat_map (values_list s.vars C) (remove F output))
          (λ f i. grows.held f (points_held f i))
          (subst (λ n. Covers u.held (working_set n (flat_map (values_list s.vars C) (remove F output)))) one.grows.vars
          (subst (λ list. Covers u.held (working_set t.vars list)) needs_are are.held));
    }

-- ---- the answers; s is the state at the call, and t the one after the outputs' polynomials

-- the polynomials of the outputs are planned
pub outputs_planned : (c : Circuit) (care : Option ℕ) (fs : List Family) → Covers fs (working_set c.inputs (answers_list c care))
    → Covers fs (circuit_needs c)
outputs_planned c None fs planned = planned
outputs_planned c (Some output) fs planned = covers_left c.inputs fs (circuit_list c) _ planned

module _ (t : State) (c : Circuit) (handles : Vec Handle) (are : ArePolynomials t c handles.items) where
  pub outputs_known : All (Knows t) handles.items
  outputs_known = all_known t (polynomial_of c) c.outputs handles.items are

  pub outputs_are : map (family t) handles.items ≡ output_polynomials c
  outputs_are = all_families t (polynomial_of c) c.outputs handles.items are

  pub output_within : (output : ℕ) → output < length c.outputs → output < length handles.items
  output_within output less = rw (AllZip-long (λ l h. Denotes t h (polynomial_of c l)) c.outputs handles.items are) less

  module _ (held : Covers t.held (circuit_needs c)) where
    -- without care they are the answers
    pub answered_all : {care : Option ℕ} → care ≡ None → HoldsAnswers t c care (record { polynomials = handles; points = None })
    answered_all none = rw none (record { known = outputs_known; are = outputs_are; points = refl; held = held })

    -- u is the state after the answers
    pub answered_care : {u : State} {care : Option ℕ} {output : ℕ} {found : Answered} → care ≡ Some output → t.vars ≡ c.inputs → Grows t u
        → HoldsCare u t.vars (map (family t) handles.items) output found → HoldsAnswers u c care found
    answered_care {u} {care} {output} {found} is vars grows holds =
        let k : HoldsCare u c.inputs (output_polynomials c) output found =
        subst (λ n. HoldsCare u n (output_polynomials c) output found) vars
        (subst (λ fs. HoldsCare u t.vars fs output found) outputs_are holds) in
        rw is (record {
          known = k.known;
          are = k.are;
          points = k.points;
          held = covers_append c.inputs u.held (circuit_list c) (care_list c.inputs (output_polynomials c) output)
              (λ f i. grows.held f (held f i)) k.held;
        })

  -- what care needs is planned
  pub care_planned : (plan : List Family) {care : Option ℕ} {output : ℕ} → care ≡ Some output → t.vars ≡ c.inputs → t.plan ≡ plan
      → Covers plan (working_set c.inputs (answers_list c care))
      → Covers t.plan (working_set t.vars (care_list t.vars (map (family t) handles.items) output))
  care_planned plan {care} {output} is vars same planned =
      let all : Covers plan (working_set c.inputs (answers_list c (Some output))) =
      subst (λ o. Covers plan (working_set c.inputs (answers_list c o))) is planned in
      rw (outputs_are, same, vars) (covers_right c.inputs plan (circuit_list c) _ all)
