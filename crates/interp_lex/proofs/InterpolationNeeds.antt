-- What finding the least polynomial needs, and that plans with every family have it.
use Rattle.std.proofs.Common.{◌≢◌, ◌⊎◌, inl, inr, ℕ, zero, suc, ◌≤◌, List, [], sym, subst, arith, ⊎_elim}
use Rattle.lattice.specs.Words.{Family, IsFamily, Covers, high_cofactor, join, sub, working_set, ones_list, interpolation_list, upper_zeros}
use Rattle.lattice.specs.Words.{upper_ones, lower_points}
use Rattle.lattice.specs.declared.op.Op.TheVariants.{Least}
use Rattle.lattice.proofs.Diagrams.{cases_empty, IsFamily-join_suc, covers_append, covers_cons, covers_nil}
use Rattle.lattice.proofs.Polynomials.{IsFamily-combine, IsFamily_wider, IsFamily-high_cofactor, IsFamily-ones_of, no_ones, no_zeros}
use Rattle.lattice.proofs.Polynomials.{none_left, skipped, IsFamily-interpolate}
use Rattle.node_store.specs.Stores.{State, family, needs_of}
use Rattle.node_store.specs.AnyFamily.{MayHoldAny}
use Rattle.node_store.specs.declared.store.Handle.{Handle}
use Rattle.bool_poly.proofs.OnesLemmas.{any_ones_set}
use Rattle.interp_lex.proofs.Recursion.{h, g, step_list, list_step}
-- the working set, by the list
pub use Rattle.interp_lex.proofs.LeastStep.{needs_least}

ruleset step_families = (IsFamily-combine, IsFamily-ones_of, IsFamily-interpolate, IsFamily-high_cofactor)

module _ (plan : List Family) (n : ℕ) (any : (f : Family) → IsFamily n f → Covers plan (sub n f)) where
  abbrev AnyList : List Family → Type 0
  AnyList list = Covers plan (working_set n list)

  any_step : (d : ℕ) → d ≤ n → (Z O : Family) → AnyList (interpolation_list d (upper_zeros d Z O) (upper_ones d Z O))
      → AnyList (interpolation_list d (lower_points d (h d Z O) Z O) (lower_points d (h d Z O) O Z))
      → Covers plan (sub n (join d (g d Z O) (h d Z O)))
      → AnyList (step_list d Z O (join d (g d Z O) (h d Z O)))
  any_step d less Z O high low whole =
      let each : (f : Family) → IsFamily d f → Covers plan (sub n f) = λ f is. any f (IsFamily_wider d n f is less) in
      let ones : (f : Family) → IsFamily d f → AnyList (ones_list d (h d Z O) f) = λ f is.
      any_ones_set plan n any d less _ f (IsFamily-interpolate d _ _) is in
      search (covers_append, covers_cons, covers_nil, each, ones, step_families) depth 30 fits 4000

  -- the working set of the list over d variables
  pub any_interpolation : (d : ℕ) → d ≤ n → (zeros ones : Family) → AnyList (interpolation_list d zeros ones)
  any_interpolation zero le zeros ones = subst AnyList (sym (none_left zeros ones)) (covers_nil n plan)
  any_interpolation (suc d) le Z O =
      let less : d ≤ n = omega arith in
      let step : Z ≢ [] → O ≢ [] → (high_cofactor d Z ≢ []) ⊎ (high_cofactor d O ≢ [])
      → AnyList (interpolation_list (suc d) Z O) = λ some_zero some_one high. rw (list_step d Z O some_zero some_one high)
      (any_step d less Z O (any_interpolation d less _ _) (any_interpolation d less _ _)
      (any _ (IsFamily_wider (suc d) n _ (IsFamily-join_suc d _ _ (IsFamily-interpolate d _ _) (IsFamily-interpolate d _ _)) le))) in
      ⊎_elim (λ e. subst (λ f. AnyList (interpolation_list (suc d) f O)) (sym e) (rw (no_zeros (suc d) O) (covers_nil n plan)))
      (λ some_zero. ⊎_elim (λ e. subst (λ f. AnyList (interpolation_list (suc d) Z f)) (sym e) (rw (no_ones (suc d) Z) (covers_nil n plan)))
      (λ some_one. ⊎_elim (λ ez. ⊎_elim (λ eo. rw (skipped d Z O ez eo) (any_interpolation d less Z O))
      (λ ne. step some_zero some_one (inr ne)) (cases_empty (high_cofactor d O)))
      (λ ne. step some_zero some_one (inl ne)) (cases_empty (high_cofactor d Z)))
      (cases_empty O))
      (cases_empty Z)

-- and that of the operation on two handles
pub any_least : (vars : ℕ) (s : State) (zeros ones : Handle) → MayHoldAny vars s → Covers s.plan (needs_of s Least zeros ones.0)
any_least vars s zeros ones any =
    rw (needs_least s zeros ones)
    (any_interpolation s.plan s.vars (λ f is. any.planned f (subst (λ v. IsFamily v f) any.vars_are is)) s.vars (omega arith)
    (family s zeros) (family s ones))
