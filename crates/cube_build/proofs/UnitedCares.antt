-- All care points of an output, united from its care sets.
use Rattle.std.proofs.Common.{◌≡◌, ◌||◌, ℕ, List, [], ◌∷◌, ◌++◌, Ok, Result, refl, subst, arith}
use Rattle.lattice.specs.Words.{Family, IsFamily, Covers, care_list, care_ones, care_set, care_zeros, points_where, union_of, working_set}
use Rattle.lattice.proofs.Polynomials.{IsFamily-family_where}
use Rattle.node_store.specs.Stores.{State, family, IsPlanned, Builds, Gives}
use Rattle.node_store.specs.declared.store.Full.{Full}
use Rattle.node_store.specs.declared.store.Handle.{Handle}
use Rattle.node_store.proofs.StoreLaws.{Reads-refl}
use Rattle.pla_reader.specs.Reading.{Description}
use Rattle.set_algebra.specs.declared.points.ValuedPoints.{ValuedPoints}
use Rattle.set_algebra.proofs.Calls.{Calls, after_points, call_planned, calls_start, combined_planned, last_combined}
use Rattle.cube_build.specs.CarePoints.{points_list}
use Rattle.cube_build.specs.GivenCareSets.{GivesCareSets, care_needs}

-- s is the state at the call, t the one after the care sets
module _ (s : State) (d : Description) (output : ℕ) (vars_are : s.vars ≡ d.inputs)
    (planned : Covers s.plan (working_set d.inputs (points_list d output))) where
  abbrev zeros : Family
  zeros = care_zeros d.inputs d.kind d.rows output

  abbrev ones : Family
  ones = care_ones d.inputs d.kind d.rows output

  abbrev points : Family
  points = care_set d.inputs d.kind d.rows output

  abbrev list : List Family
  list = care_list d.inputs d.kind d.rows output

  start : Calls s s d.inputs (points_list d output) (list ++ points ∷ []) []
  start = calls_start (Reads-refl s) (omega (arith, vars_are)) (rw vars_are planned) refl tt

  needed_are : care_needs d.inputs d.kind d.rows output ≡ working_set s.vars list
  needed_are = rw vars_are refl

  pub sets_planned : Covers s.plan (care_needs d.inputs d.kind d.rows output)
  sets_planned = call_planned list (points ∷ []) start needed_are

  zeros_fit : IsFamily d.inputs zeros
  unfolding points_where
  zeros_fit = IsFamily-family_where d.inputs _

  ones_fit : IsFamily d.inputs ones
  unfolding points_where
  ones_fit = IsFamily-family_where d.inputs _

  module _ {t : State} {cares : ValuedPoints} (given : GivesCareSets s t (Ok cares) d.inputs d.kind d.rows output) where
    after_sets : Calls s t d.inputs (points_list d output) (points ∷ []) ((cares.zeros, zeros) ∷ (cares.ones, ones) ∷ [])
    after_sets = after_points list (points ∷ []) start needed_are refl refl zeros_fit ones_fit given

    pub united_planned : IsPlanned t (union_of t.vars (family t cares.zeros) (family t cares.ones))
    united_planned = let k = after_sets in combined_planned (λ a b. a || b) refl k k.here.0 k.here.1.0

    pub united_given : {u : State} (r : Result Handle Full)
        → Builds t u r (union_of t.vars (family t cares.zeros) (family t cares.ones))
        → Gives s u r points (working_set d.inputs (points_list d output))
    united_given {u} r is = let k = after_sets in
        subst (λ (n : ℕ). Gives s u r points (working_set n (points_list d output))) vars_are
        (last_combined (λ a b. a || b) refl k k.here.0 k.here.1.0 r is)
