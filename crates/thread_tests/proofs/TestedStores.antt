-- What the tests rest on: stores with a plan that has every family.
use Rattle.std.proofs.Common.{◌≡◌, ◌≢◌, ℕ, suc, ◌-◌, ◌%◌, ◌<◌, ◌≤◌, Result, Ok, Err, IfOk, Some, List, [], ◌∷◌, refl, ap, ◌∙◌, subst, arith}
use mathlib.Core.Logic.{dite}
use native.Mathlib.Decide.{ℕ_discrete}
use Rattle.lattice.specs.Words.{Family, IsFamily, Has, join, working_set}
use Rattle.lattice.proofs.Diagrams.{IsFamily-nil, IsFamily-unit, IsFamily-join_suc}
use Rattle.lattice.proofs.Polynomials.{IsFamily_wider}
use Rattle.node_store.specs.Stores.{State, IsSound, Grows, Builds, family}
use Rattle.node_store.specs.AnyFamily.{every_family, MayHoldAny}
use Rattle.node_store.specs.Plain.{plain_state}
use Rattle.node_store.specs.declared.store.Handle.{Handle}
use Rattle.node_store.specs.declared.store.Full.{Full}
use Rattle.node_store.proofs.StoreLaws.{MayHoldAny-made, grown_planned, Denotes-family, Grows-refl}
use Rattle.unique_table.specs.Passes.{first_state}
use Rattle.thread_tests.specs.LastVariables.{IsOver}

-- the first state of a table with the plan of every family may be asked for any
pub any_first : (s : State) (name : List ℕ) (bits vars : ℕ) (fs : List Family) → s ≡ first_state name bits vars fs
    → fs ≡ working_set vars (every_family vars) → MayHoldAny vars s
unfolding plain_state
any_first s name bits vars fs made plan = grind (arith, MayHoldAny-made (plain_state vars 0 fs 0 []) vars 0 fs refl plan)

pub over_later : (s t : State) (d : ℕ) (h : Handle) → Grows s t → IsOver s d h → IsOver t d h
over_later s t d h grows is = (is.0, grows.known h.0 is.0 is.1, is.2)

pub constant_over : (s : State) (n d : ℕ) → IsSound s → IsOver s d (record { 0 = n % 2 })
constant_over s n d ok = dite (ℕ_discrete (n % 2) 0) (λ e. ([], ap s.known e ∙ ok.empty, IsFamily-nil d))
    (λ ne. let one : n % 2 ≡ 1 = omega arith in (0 ∷ [], ap s.known one ∙ ok.unit, IsFamily-unit d))

module _ (t : State) (vars count var : ℕ) (lo hi : Handle) (ok : IsSound t) (any : MayHoldAny vars t) (some : count ≢ 0)
    (less : count ≤ vars) (at : var ≡ t.vars - (count - 1)) (l : IsOver t (count - 1) lo) (h : IsOver t (count - 1) hi) where
  abbrev d : ℕ
  d = count - 1

  inside : d < t.vars
  inside = omega (arith, any.vars_are)

  whole : IsFamily (suc d) (join d l.0 h.0)
  whole = IsFamily-join_suc d l.0 h.0 l.2 h.2

  pub any_grown : hi.0 ≢ 0 → Has t.plan (join (t.vars - var) (family t lo) (family t hi))
  any_grown ne = grown_planned t t d var lo hi l.0 h.0 (join d l.0 h.0) (Grows-refl t) inside at l.1 h.1 l.2 h.2 refl
      (λ e. ne (ok.one_to_one hi.0 0 [] (h.1 ∙ ap Some e) ok.empty))
      (any.planned (join d l.0 h.0) (IsFamily_wider (suc d) vars (join d l.0 h.0) whole (omega arith)))

  pub over_grown : (u : State) (r : Result Handle Full) → Builds t u r (join (t.vars - var) (family t lo) (family t hi))
      → IfOk r (IsOver u count)
  over_grown u (Ok x) is =
      let depth : t.vars - var ≡ d = omega (arith, inside, at) in let same : suc d ≡ count = omega arith in
      let f : join (t.vars - var) (family t lo) (family t hi) ≡ join d l.0 h.0 = λ k. join (depth k) (Denotes-family t lo l.0 l.1 k)
      (Denotes-family t hi h.0 h.1 k) in
      (join d l.0 h.0, is.ok ∙ ap Some f, subst (λ (k : ℕ). IsFamily k (join d l.0 h.0)) same whole)
  over_grown u (Err e) is = tt
