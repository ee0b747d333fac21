-- Plans that have every family have what normal forms and elements need.
use Rattle.std.proofs.Common.{ℕ, ◌<◌, ◌^◌, List, arith}
use Rattle.lattice.specs.Words.{Family, IsFamily, Covers, first_only, exactly_one, sub, normal_form_of, basis_element_of, working_set}
use Rattle.lattice.specs.Words.{normal_form_list, basis_element_list}
use Rattle.lattice.proofs.Diagrams.{IsFamily-single, covers_append, covers_cons, covers_one}
use Rattle.lattice.proofs.Polynomials.{IsFamily-family_where, IsFamily-combine, IsFamily-interpolate}
use Rattle.node_store.specs.Stores.{State}
use Rattle.node_store.specs.AnyFamily.{MayHoldAny}
use Rattle.node_store.proofs.StoreLaws.{any_family}
use Rattle.interp_lex.proofs.InterpolationNeeds.{any_interpolation}

module _ (plan : List Family) (n : ℕ) (any : (f : Family) → IsFamily n f → Covers plan (sub n f)) where
  abbrev AnyList : List Family → Type 0
  AnyList list = Covers plan (working_set n list)

  any_normal : (m : ℕ) (points : Family) → AnyList (normal_form_list n m points)
  unfolding normal_form_list normal_form_of
  any_normal m points = covers_cons n plan _ _ (any _ (IsFamily-family_where n _)) (covers_cons n plan _ _
      (any _ (IsFamily-combine first_only n points _)) (covers_append n plan _ _ (any_interpolation plan n any n (omega arith) _ _)
      (covers_one n plan _ (any _ (IsFamily-interpolate n _ _)))))

  any_element_list : (m : ℕ) (points : Family) → m < 2 ^ n → AnyList (basis_element_list n m points)
  unfolding basis_element_list basis_element_of
  any_element_list m points below = covers_append n plan _ _ (any_normal m points)
      (covers_cons n plan _ _ (any _ (IsFamily-single n m below)) (covers_one n plan _ (any _ (IsFamily-combine exactly_one n _ _))))

module _ (vars : ℕ) (s : State) (any : MayHoldAny vars s) where
  pub any_normal_form : (m : ℕ) (points : Family) → Covers s.plan (working_set s.vars (normal_form_list s.vars m points))
  any_normal_form m points = any_normal s.plan s.vars (any_family vars s any) m points

  pub any_element : (m : ℕ) (points : Family) → m < 2 ^ vars → Covers s.plan (working_set s.vars (basis_element_list s.vars m points))
  any_element m points below = any_element_list s.plan s.vars (any_family vars s any) m points (rw any.vars_are below)
