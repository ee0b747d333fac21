-- For callers: the miter of two circuits is one, and the values of its outputs.
use Rattle.std.proofs.Common.{◌≡◌, ℕ, ◌+◌, ◌-◌, ◌*◌, ◌/◌, ◌%◌, ◌^◌, ◌≤◌, ◌<◌, Bool, true, false, not, cond, ltb, eqb}
use Rattle.std.proofs.Common.{◌&&◌, inl, inr, Option, List, ◌++◌, length, get_or, map, Some, refl, sym, ap, ◌∙◌, subst, arith}
use Rattle.std.specs.Prelude.{option_map, slice_get}
use Rattle.std.proofs.lemmas.Bool.{eq-eqb, ne_eqb, lt-ltb, le-ltb}
use Rattle.std.proofs.lemmas.Bool.Decides.{nat_tests}
use Rattle.std.proofs.lemmas.List.{length-append, length-map}
use Rattle.std.proofs.lemmas.Option.{slice_get-map, slice_get-get_or, slice_get_within, get_or_from_slice_get}
use Rattle.lattice.specs.Family.{divides, exactly_one, numbers_below}
use Rattle.lattice.proofs.Polynomials.{length-numbers_below}
use Rattle.aig_reader.specs.declared.circuit.TheConstants.{MAX_GATES}
use Rattle.aig_reader.specs.declared.circuit.Gate.{Gate}
use Rattle.aig_reader.specs.Circuit.{Circuit, HasValue, constant, input, gate, complement, IsCircuit}
use Rattle.aig_reader.proofs.Values.{one_value, some_value}
use Rattle.aig_miter.specs.Miter.{moved_literal, moved_gate, complement_of, difference, first_variable, difference_at, is_care}
use Rattle.aig_miter.specs.Miter.{miter_gates, miter_outputs, miter_output, miter}
use Rattle.aig_miter.specs.Laws.{AreAlike, MiterValues, CareOutputStays, MiterIsCircuit}
use Rattle.aig_miter.proofs.Joined.{get_left, get_right, get_either, mapped_at, moved_below, StandsBelow, differences}
use Rattle.aig_miter.proofs.Joined.{length-differences, difference_gate, differences_below}

-- ---- sizes

module _ (c d : Circuit) where
  abbrev moved : List Gate
  moved = map (moved_gate c.inputs (length c.gates)) d.gates

  length-front : length (c.gates ++ moved) ≡ length c.gates + length d.gates
  length-front =
      omega (arith, length-append c.gates moved, length-map d.gates (moved_gate c.inputs (length c.gates)))

  -- how many gates a miter has
  pub length-miter_gates : length (miter_gates c d) ≡ length c.gates + length d.gates + 3 * length c.outputs
  unfolding miter_gates
  length-miter_gates = let n : ℕ = length c.outputs in
      omega (arith, length-append (c.gates ++ moved) (differences c d n), length-front, length-differences c d n)

  module _ (care : Option ℕ) where
    length-miter_outputs : length (miter_outputs c d care) ≡ length c.outputs
    unfolding miter_outputs
    length-miter_outputs =
        length-map (numbers_below (length c.outputs)) (miter_output c d care) ∙ length-numbers_below (length c.outputs)

    miter_output_at : (i e : ℕ) → i < length c.outputs → get_or (miter_outputs c d care) i e ≡ miter_output c d care i
    unfolding miter_outputs
    miter_output_at i e less =
        get_or_from_slice_get _ i (miter_output c d care i) e (mapped_at (miter_output c d care) (length c.outputs) i less)

-- ---- the miter is a circuit

module _ (c d : Circuit) (care : Option ℕ) (are : AreAlike c d) where
  abbrev m : Circuit
  m = miter c d care

  -- a gate of the second circuit, moved
  moved_stands : (k : ℕ) (g : Gate) → slice_get (moved c d) k ≡ Some g → StandsBelow (c.inputs + 1 + (length c.gates + k)) g
  moved_stands k g is =
      let others : ℕ = length c.gates in
      let own = get_or d.gates k (record { left = 0; right = 0 }) in
      let within : k < length d.gates =
      omega (arith, slice_get_within (moved c d) k g is, length-map d.gates (moved_gate c.inputs others)) in
      let at : slice_get d.gates k ≡ Some own = slice_get-get_or d.gates k (record { left = 0; right = 0 }) within in
      let same : moved_gate c.inputs others own ≡ g = cc (slice_get-map (moved_gate c.inputs others) d.gates k) in
      let left = moved_below c.inputs others own.left (c.inputs + 1 + k) (omega (arith, are.second.left k own at, are.inputs)) in
      let right = moved_below c.inputs others own.right (c.inputs + 1 + k) (omega (arith, are.second.right k own at, are.inputs)) in
      subst (StandsBelow (c.inputs + 1 + (others + k))) same (record { left = omega (arith, left); right = omega (arith, right) })

  -- the operands of the exclusive ors
  outputs_stand : (i : ℕ) → i < length c.outputs → StandsBelow (first_variable c d i) (record {
    left = get_or c.outputs i 0;
    right = moved_literal c.inputs (length c.gates) (get_or d.outputs i 0);
  })
  outputs_stand i less =
      let all : ℕ = c.inputs + 1 + length d.gates in
      let below = are.second.literals i 0 (omega (arith, are.outputs)) in
      let other : get_or d.outputs i 0 < 2 * all = omega (arith, below, are.inputs) in record {
        left = omega (arith, are.first.literals i 0 less);
        right = omega (arith, moved_below c.inputs (length c.gates) (get_or d.outputs i 0) all other);
      }

  gate_stands : (k : ℕ) (g : Gate) → slice_get m.gates k ≡ Some g → StandsBelow (c.inputs + 1 + k) g
  unfolding miter_gates
  gate_stands k g is =
      let front : List Gate = c.gates ++ moved c d in let n : ℕ = length c.outputs in
      elim (get_either front (differences c d n) k g is) [
        | inl h ↦ elim (get_either c.gates (moved c d) k g h.1) [
          | inl own ↦ record { left = are.first.left k g own.1; right = are.first.right k g own.1 }
          | inr other ↦
              let place : c.inputs + 1 + (length c.gates + (k - length c.gates)) ≡ c.inputs + 1 + k = omega (arith, other.0) in
              subst (λ v. StandsBelow v g) place (moved_stands (k - length c.gates) g other.1)
        ]
        | inr h ↦
            let place : first_variable c d 0 + (k - length front) ≡ c.inputs + 1 + k = omega (arith, h.0, length-front c d) in
            subst (λ v. StandsBelow v g) place (differences_below c d n (k - length front) g outputs_stand h.1)
      ]

  output_below : (i : ℕ) (care_here : Bool) → i < length c.outputs
      → cond care_here (get_or c.outputs i 0) (2 * (first_variable c d i + 2)) < 2 * (c.inputs + 1 + length m.gates)
  output_below i true less = omega (arith, are.first.literals i 0 less, length-miter_gates c d)
  output_below i false less = omega (arith, length-miter_gates c d)

  miter_fits : length m.gates ≤ MAX_GATES → IsCircuit m.inputs m.gates m.outputs m.in_names m.out_names
  miter_fits few = let count = length-miter_outputs c d care in record {
    few_inputs = are.first.few_inputs;
    few_gates = few;
    few_outputs = omega (arith, are.first.few_outputs, count);
    left = λ k g is. (gate_stands k g is).left;
    right = λ k g is. (gate_stands k g is).right;
    literals = λ i e less. let within : i < length c.outputs = omega (arith, less, count) in
        rw (miter_output_at c d care i e within) (output_below i (is_care care i) within);
    in_count = are.first.in_count;
    out_count = are.first.out_count ∙ sym count;
  }

-- The miter of circuits is a circuit, where it has no more gates than a circuit may have.
pub miter_is_circuit : MiterIsCircuit
miter_is_circuit = miter_fits

-- ---- moved literals

-- the variable where the gates stand behind so many others
abbrev moved_variable : (inputs others v : ℕ) → ℕ
moved_variable inputs others v = cond (ltb inputs v) (v + others) v

moved_even : (inputs others v : ℕ) → moved_literal inputs others (2 * v) ≡ 2 * moved_variable inputs others v
unfolding moved_literal
moved_even inputs others v = let half : 2 * v / 2 ≡ v = omega arith in rw half (grind (arith, nat_tests))

moved_odd : (inputs others v : ℕ) → moved_literal inputs others (2 * v + 1) ≡ 2 * moved_variable inputs others v + 1
unfolding moved_literal
moved_odd inputs others v = let half : (2 * v + 1) / 2 ≡ v = omega arith in rw half (grind (arith, nat_tests))

-- a literal that is of no gate stays
moved_input : (inputs others v : ℕ) → v ≤ inputs → moved_literal inputs others (2 * v) ≡ 2 * v
moved_input inputs others v few = rw (le-ltb inputs v few) at (moved_even inputs others v)

-- ---- values in one circuit

even_complement : (v : ℕ) → complement_of (2 * v) ≡ 2 * v + 1
unfolding complement_of
even_complement v = let even : eqb (2 * v % 2) 0 ≡ true = eq-eqb (2 * v % 2) 0 (omega arith) in rw even refl

odd_complement : (v : ℕ) → complement_of (2 * v + 1) ≡ 2 * v
unfolding complement_of
odd_complement v = let odd : eqb ((2 * v + 1) % 2) 0 ≡ false = ne_eqb ((2 * v + 1) % 2) 0 (λ same. omega arith) in rw odd (omega arith)

module _ (c : Circuit) (point : ℕ) where
  -- the complement of a literal has the other value
  complement_value : {a : ℕ} {x : Bool} → HasValue c point a x → HasValue c point (complement_of a) (not x)
  complement_value constant = subst (λ l. HasValue c point l true) (sym (even_complement 0)) (complement 0 false constant)
  complement_value (input v some few) =
      let x : Bool = divides (2 ^ (c.inputs - v)) point in
      subst (λ l. HasValue c point l (not x)) (sym (even_complement v)) (complement v x (input v some few))
  complement_value (gate k g x y at l r) =
      let v : ℕ = c.inputs + 1 + k in
      subst (λ l. HasValue c point l (not (x && y))) (sym (even_complement v)) (complement v (x && y) (gate k g x y at l r))
  complement_value (complement v true h) = subst (λ l. HasValue c point l true) (sym (odd_complement v)) h
  complement_value (complement v false h) = subst (λ l. HasValue c point l false) (sym (odd_complement v)) h

  -- neither both nor none
  one_of_two : (x y : Bool) → (not (x && y) && not (not x && not y)) ≡ exactly_one x y
  one_of_two true true = refl
  one_of_two true false = refl
  one_of_two false true = refl
  one_of_two false false = refl

  -- the third of three gates is 1 where the literals differ
  difference_value : (k a b : ℕ) (x y : Bool)
      → ((j : ℕ) (g : Gate) → slice_get (difference (c.inputs + 1 + k) a b) j ≡ Some g → slice_get c.gates (k + j) ≡ Some g)
      → HasValue c point a x → HasValue c point b y → HasValue c point (2 * (c.inputs + 1 + k + 2)) (exactly_one x y)
  difference_value k a b x y stand first second =
      let v : ℕ = c.inputs + 1 + k in
      let both = gate (k + 0) (record { left = a; right = b }) x y (stand 0 _ refl) first second in
      let none = gate (k + 1) (record { left = complement_of a; right = complement_of b }) (not x) (not y) (stand 1 _ refl)
      (complement_value first) (complement_value second) in
      let here : 2 * (c.inputs + 1 + (k + 0)) ≡ 2 * v = omega arith in
      let next : 2 * (c.inputs + 1 + (k + 1)) ≡ 2 * (v + 1) = omega arith in
      let last : 2 * (c.inputs + 1 + (k + 2)) ≡ 2 * (v + 2) = omega arith in
      let left = complement v (x && y) (subst (λ l. HasValue c point l (x && y)) here both) in
      let right = complement (v + 1) (not x && not y) (subst (λ l. HasValue c point l (not x && not y)) next none) in
      let value = gate (k + 2) (record { left = 2 * v + 1; right = 2 * (v + 1) + 1 }) (not (x && y)) (not (not x && not y))
      (stand 2 _ refl) left right in
      subst (HasValue c point (2 * (v + 2))) (one_of_two x y)
      (subst (λ l. HasValue c point l (not (x && y) && not (not x && not y))) last value)

-- ---- values in the miter

module _ (c d : Circuit) (care : Option ℕ) (point : ℕ) where
  abbrev there : Circuit
  there = miter c d care

  -- a literal of the first circuit
  value_of_first : {literal : ℕ} {x : Bool} → HasValue c point literal x → HasValue there point literal x
  unfolding miter_gates
  value_of_first constant = constant
  value_of_first (input v some few) = input v some few
  value_of_first (gate k g x y at l r) =
      let within = slice_get_within c.gates k g at in
      let front = get_left (c.gates ++ moved c d) (differences c d (length c.outputs)) k
      (omega (arith, within, length-front c d)) in
      gate k g x y (front ∙ get_left c.gates (moved c d) k within ∙ at) (value_of_first l) (value_of_first r)
  value_of_first (complement v x h) = complement v x (value_of_first h)

  module _ (same : d.inputs ≡ c.inputs) where
    abbrev to : ℕ → ℕ
    to literal = moved_literal c.inputs (length c.gates) literal

    moved_gate_at : (k : ℕ) (g : Gate) → slice_get d.gates k ≡ Some g
        → slice_get there.gates (length c.gates + k) ≡ Some (moved_gate c.inputs (length c.gates) g)
    unfolding miter_gates
    moved_gate_at k g at =
        let move : Gate → Gate = moved_gate c.inputs (length c.gates) in
        let within = slice_get_within d.gates k g at in
        let front = get_left (c.gates ++ moved c d) (differences c d (length c.outputs)) (length c.gates + k)
        (omega (arith, within, length-front c d)) in
        front ∙ get_right c.gates (moved c d) (length c.gates + k) k refl ∙ slice_get-map move d.gates k ∙ ap (option_map move) at

    -- a literal of the second circuit, moved
    value_of_second : {literal : ℕ} {x : Bool} → HasValue d point literal x → HasValue there point (to literal) x
    unfolding miter_gates
    value_of_second constant =
        subst (λ l. HasValue there point l false) (sym (moved_input c.inputs (length c.gates) 0 (omega arith))) constant
    value_of_second (input v some few) =
        let own : HasValue there point (2 * v) (divides (2 ^ (c.inputs - v)) point) = input v some (omega (arith, few, same)) in
        let stays : 2 * v ≡ to (2 * v) = sym (moved_input c.inputs (length c.gates) v (omega (arith, few, same))) in
        subst (λ n. HasValue there point (to (2 * v)) (divides (2 ^ (n - v)) point)) (sym same)
        (subst (λ l. HasValue there point l (divides (2 ^ (c.inputs - v)) point)) stays own)
    value_of_second (gate k g x y at l r) =
        let v : ℕ = d.inputs + 1 + k in
        let above : ltb c.inputs v ≡ true = lt-ltb c.inputs v (omega (arith, same)) in
        let own = gate (length c.gates + k) (moved_gate c.inputs (length c.gates) g) x y (moved_gate_at k g at)
        (value_of_second l) (value_of_second r) in
        let even : to (2 * v) ≡ 2 * (v + length c.gates) = rw above at (moved_even c.inputs (length c.gates) v) in
        let place : 2 * (c.inputs + 1 + (length c.gates + k)) ≡ to (2 * v) = omega (arith, even, same) in
        subst (λ l. HasValue there point l (x && y)) place own
    value_of_second (complement v x h) =
        let w : ℕ = moved_variable c.inputs (length c.gates) v in
        let own = subst (λ l. HasValue there point l x) (moved_even c.inputs (length c.gates) v) (value_of_second h) in
        subst (λ l. HasValue there point l (not x)) (sym (moved_odd c.inputs (length c.gates) v)) (complement w x own)

    -- the output at a position
    module _ (i : ℕ) (less : i < length c.outputs) where
      gates_stand : (j : ℕ) (g : Gate) → slice_get (difference_at c d i) j ≡ Some g
          → slice_get there.gates (length c.gates + length d.gates + 3 * i + j) ≡ Some g
      unfolding miter_gates
      gates_stand j g at =
          let n : ℕ = length c.outputs in
          get_right (c.gates ++ moved c d) (differences c d n) (length c.gates + length d.gates + 3 * i + j) (3 * i + j)
          (omega (arith, length-front c d))
          ∙ difference_gate c d n i j g less at

      differing_value : (x y : Bool) → HasValue c point (get_or c.outputs i 0) x → HasValue d point (get_or d.outputs i 0) y
          → HasValue there point (2 * (first_variable c d i + 2)) (exactly_one x y)
      differing_value x y first second =
          let k : ℕ = length c.gates + length d.gates + 3 * i in
          let place : c.inputs + 1 + k ≡ first_variable c d i = omega arith in
          let a : ℕ = get_or c.outputs i 0 in let b : ℕ = to (get_or d.outputs i 0) in
          subst (λ v. HasValue there point (2 * (v + 2)) (exactly_one x y)) place
          (difference_value there point k a b x y
          (λ j g at. gates_stand j g (ap (λ v. slice_get (difference v a b) j) (sym place) ∙ at))
          (value_of_first first) (value_of_second second))

-- ---- the laws

-- An output of the miter is 1 where exactly one of the circuits' outputs at its position is.
pub miter_values : MiterValues
miter_values c d care point i z are less other =
    let x = some_value c point (get_or c.outputs i 0) are.first (are.first.literals i 0 less) in
    let y = some_value d point (get_or d.outputs i 0) are.second (are.second.literals i 0 (omega (arith, less, are.outputs))) in
    let literal : get_or (miter c d care).outputs i 0 ≡ 2 * (first_variable c d i + 2) =
    rw other at (miter_output_at c d care i 0 less) in
    let value = λ (x y : Bool) (p : HasValue c point (get_or c.outputs i 0) x) (q : HasValue d point (get_or d.outputs i 0) y).
    subst (λ l. HasValue (miter c d care) point l (exactly_one x y)) (sym literal)
    (differing_value c d care point are.inputs i less x y p q) in (
      λ h. record {
        x = x.0;
        y = y.0;
        first = x.1;
        second = y.1;
        is = one_value (miter c d care) point h (value x.0 y.0 x.1 y.1);
      },
      λ h. subst (HasValue (miter c d care) point (get_or (miter c d care).outputs i 0)) (sym h.is) (value h.x h.y h.first h.second),
    )

-- The care output has in the miter the value that it has in the first circuit.
pub care_output_stays : CareOutputStays
care_output_stays c d care point i x are less here =
    let own = some_value c point (get_or c.outputs i 0) are.first (are.first.literals i 0 less) in
    let literal : get_or (miter c d care).outputs i 0 ≡ get_or c.outputs i 0 = rw here at (miter_output_at c d care i 0 less) in
    let value = λ (x : Bool) (p : HasValue c point (get_or c.outputs i 0) x).
    subst (λ l. HasValue (miter c d care) point l x) (sym literal) (value_of_first c d care point p) in (
      λ h. subst (HasValue c point (get_or c.outputs i 0)) (one_value (miter c d care) point (value own.0 own.1) h) own.1,
      λ p. value x p,
    )
