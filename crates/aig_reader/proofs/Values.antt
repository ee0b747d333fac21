-- For callers: each literal of a circuit has exactly one value at each point.
use Rattle.std.proofs.Common.{◌≡◌, ℕ, zero, suc, ◌-◌, ◌+◌, ◌*◌, ◌^◌, ◌≤◌, ◌<◌, Bool, false, not, ◌&&◌, length, get_or}
use Rattle.std.proofs.Common.{inl, inr, Option, Some, refl, sym, ap, ◌∙◌, subst, arith}
use Rattle.std.specs.Prelude.{slice_get}
use Rattle.std.proofs.lemmas.Bool.{cases_lt}
use Rattle.std.proofs.lemmas.Option.{slice_get-get_or}
use Rattle.lattice.specs.Family.{divides}
use Rattle.aig_reader.specs.declared.circuit.Gate.{Gate}
use Rattle.aig_reader.specs.Circuit.{Circuit, HasValue, constant, input, gate, complement, IsCircuit}
-- A file has one reading at most.
pub use Rattle.aig_reader.proofs.Readings.{one_reading}

abbrev just : Gate → Option Gate
just g = Some g

some_is : (g h : Gate) → just g ≡ just h → g ≡ h
some_is g h e = cc

both : (w x y z : Bool) → w ≡ y → x ≡ z → (w && x) ≡ (y && z)
both w x y z p q = cc

module _ (c : Circuit) (point : ℕ) where
  same : {literal : ℕ} {x : Bool} → HasValue c point literal x → {other : ℕ} {y : Bool} → HasValue c point other y → literal ≡ other → x ≡ y
  same constant constant e = refl
  same constant (input w some few) e = absurd (omega arith)
  same constant (gate k h y z is l r) e = absurd (omega arith)
  same constant (complement w y d) e = absurd (omega arith)
  same (input v some few) constant e = absurd (omega arith)
  same (input v some few) (input w more less) e = ap (λ u. divides (2 ^ (c.inputs - u)) point) (omega arith)
  same (input v some few) (gate k h y z is l r) e = absurd (omega arith)
  same (input v some few) (complement w y d) e = absurd (omega arith)
  same (gate k g x y is l r) constant e = absurd (omega arith)
  same (gate k g x y is l r) (input w more less) e = absurd (omega arith)
  same (gate k g x y is l r) (gate j h w z at p q) e =
      let place : k ≡ j = omega arith in
      let one : g ≡ h = some_is g h (sym is ∙ ap (slice_get c.gates) place ∙ at) in
      both x y w z (same l p (ap (λ b. b.left) one)) (same r q (ap (λ b. b.right) one))
  same (gate k g x y is l r) (complement w z d) e = absurd (omega arith)
  same (complement v x d) constant e = absurd (omega arith)
  same (complement v x d) (input w more less) e = absurd (omega arith)
  same (complement v x d) (gate j h w z at p q) e = absurd (omega arith)
  same (complement v x d) (complement w y q) e = ap not (same d q (omega arith))

  -- a literal has one value at most
  pub one_value : {literal : ℕ} {x y : Bool} → HasValue c point literal x → HasValue c point literal y → x ≡ y
  one_value p q = same p q refl

  module _ (is : IsCircuit c.inputs c.gates c.outputs c.in_names c.out_names) where
    -- the variable that comes behind those whose literals have a value
    next : (v : ℕ) → v < c.inputs + 1 + length c.gates → ((literal : ℕ) → literal < 2 * v → (x : Bool) × HasValue c point literal x)
        → (x : Bool) × HasValue c point (2 * v) x
    next zero lt before = (false, constant)
    next (suc v) lt before = elim (cases_lt c.inputs (suc v)) [
      | inr few ↦ (divides (2 ^ (c.inputs - suc v)) point, input (suc v) (omega arith) few)
      | inl more ↦
          let k = v - c.inputs in let g = get_or c.gates k (record { left = 0; right = 0 }) in
          let at : slice_get c.gates k ≡ Some g = slice_get-get_or c.gates k (record { left = 0; right = 0 }) (omega arith) in
          let x = before g.left (omega (arith, is.left k g at)) in let y = before g.right (omega (arith, is.right k g at)) in
          let place : 2 * (c.inputs + 1 + k) ≡ 2 * suc v = omega arith in
          (x.0 && y.0, subst (λ literal. HasValue c point literal (x.0 && y.0)) place (gate k g x.0 y.0 at x.1 y.1))
    ]

    below : (v : ℕ) → v ≤ c.inputs + 1 + length c.gates → (literal : ℕ) → literal < 2 * v → (x : Bool) × HasValue c point literal x
    below zero le literal lt = absurd (omega arith)
    below (suc v) le literal lt = elim (cases_lt literal (2 * v)) [
      | inl less ↦ below v (omega arith) literal less
      | inr more ↦
          let value = next v (omega arith) (below v (omega arith)) in elim (cases_lt literal (2 * v + 1)) [
            | inl less ↦ let here : 2 * v ≡ literal = omega arith in (value.0, subst (λ l. HasValue c point l value.0) here value.1)
            | inr other ↦
                let here : 2 * v + 1 ≡ literal = omega arith in
                (not value.0, subst (λ l. HasValue c point l (not value.0)) here (complement v value.0 value.1))
          ]
    ]

-- each literal of a circuit has a value
pub some_value : (c : Circuit) (point literal : ℕ) → IsCircuit c.inputs c.gates c.outputs c.in_names c.out_names
    → literal < 2 * (c.inputs + 1 + length c.gates) → (x : Bool) × HasValue c point literal x
some_value c point literal is lt = below c point is (c.inputs + 1 + length c.gates) (omega arith) literal lt
