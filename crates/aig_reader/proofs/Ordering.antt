-- The circuit of gates that are placed.
use Rattle.std.proofs.Common.{◌≡◌, ℕ, ◌-◌, ◌+◌, ◌*◌, ◌/◌, ◌^◌, ◌<◌, Bool, false, not, ◌&&◌, List, length, get_or, map, Some, Ok}
use Rattle.std.proofs.Common.{sym, ap, ◌∙◌, subst, arith}
use Rattle.std.specs.Prelude.{slice_get}
use Rattle.std.specs.List.{All}
use Rattle.std.proofs.lemmas.Option.{slice_get_within}
use Rattle.std.proofs.lemmas.List.{length-map}
use Rattle.std.proofs.lemmas.List.Elements.{All-map}
use Rattle.lattice.specs.Family.{divides}
use Rattle.aig_reader.specs.declared.circuit.Gate.{Gate}
use Rattle.aig_reader.specs.declared.header.Sizes.{Sizes}
use Rattle.aig_reader.specs.Circuit.{Circuit, HasValue, constant, input, gate, complement, IsCircuit}
use Rattle.aig_reader.specs.Order.{Ordered, IsSound, gate_of, is_open, number, renumbered, renumbered_gate}
use Rattle.aig_reader.specs.Reading.{AreFew, AreSound, Names, no_names, symbols_at}
use Rattle.aig_reader.proofs.Circuits.{names_count}
use Rattle.aig_reader.proofs.Placing.{operands_lower, number_of_gate, number_of_input, renumbered_below}

-- a literal of the lines has the value of its literal in their order
module _ (l c : Circuit) (p : Ordered) (point : ℕ) (same_inputs : c.inputs ≡ l.inputs) (same_gates : c.gates ≡ p.gates)
    (sound : IsSound l.inputs l.gates p) (all : (k : ℕ) → k < length l.gates → is_open l.inputs p (l.inputs + 1 + k) ≡ false) where
  own_line : (k : ℕ) (g : Gate) → slice_get l.gates k ≡ Some g → gate_of l.inputs l.gates (l.inputs + 1 + k) ≡ Some g
  own_line k g is = let place : l.inputs + 1 + k - (l.inputs + 1) ≡ k = omega arith in ap (slice_get l.gates) place ∙ is

  pub lower_numbers : (k : ℕ) (g : Gate) → slice_get l.gates k ≡ Some g
      → (number l.inputs p (g.left / 2) < number l.inputs p (l.inputs + 1 + k))
      × (number l.inputs p (g.right / 2) < number l.inputs p (l.inputs + 1 + k))
  lower_numbers k g is = operands_lower l.inputs l.gates p sound (l.inputs + 1 + k) g (omega arith) (own_line k g is)
      (all k (slice_get_within l.gates k g is))

  pub ordered_value : {literal : ℕ} {x : Bool} → HasValue l point literal x → HasValue c point (renumbered l.inputs p literal) x
  ordered_value constant =
      let own = number_of_input l.inputs p 0 (omega arith) in
      let at : 0 ≡ renumbered l.inputs p 0 = omega (arith, own) in subst (λ n. HasValue c point n false) at constant
  ordered_value (input v some few) =
      let half : 2 * v / 2 ≡ v = omega arith in
      let own = ap (λ i. number l.inputs p i) half ∙ number_of_input l.inputs p v few in
      let at : 2 * v ≡ renumbered l.inputs p (2 * v) = omega (arith, own) in
      let bit : divides (2 ^ (c.inputs - v)) point ≡ divides (2 ^ (l.inputs - v)) point =
      ap (λ n. divides (2 ^ (n - v)) point) same_inputs in
      subst (λ b. HasValue c point (renumbered l.inputs p (2 * v)) b) bit
      (subst (λ n. HasValue c point n (divides (2 ^ (c.inputs - v)) point)) at (input v some (omega (arith, few, same_inputs))))
  ordered_value (gate k g x y is left right) =
      let v : ℕ = l.inputs + 1 + k in
      let among = sound.each v g (omega arith) (own_line k g is) (all k (slice_get_within l.gates k g is)) in
      let there = ap (λ gs. slice_get gs among.position) same_gates ∙ among.there in
      let value = gate among.position (renumbered_gate l.inputs p g) x y there (ordered_value left) (ordered_value right) in
      let half : 2 * (l.inputs + 1 + k) / 2 ≡ l.inputs + 1 + k = omega arith in
      let own = ap (λ i. number l.inputs p i) half ∙ number_of_gate l.inputs p (l.inputs + 1 + k) (omega arith) ∙ among.number in
      let at : 2 * (c.inputs + 1 + among.position) ≡ renumbered l.inputs p (2 * (l.inputs + 1 + k)) = omega (arith, own, same_inputs) in
      subst (λ n. HasValue c point n (x && y)) at value
  ordered_value (complement v x d) =
      let half : 2 * v / 2 ≡ v = omega arith in let other : (2 * v + 1) / 2 ≡ v = omega arith in
      let n : ℕ = number l.inputs p v in
      let from : renumbered l.inputs p (2 * v) ≡ 2 * n = omega (arith, ap (λ i. number l.inputs p i) half) in
      let to : 2 * n + 1 ≡ renumbered l.inputs p (2 * v + 1) = omega (arith, ap (λ i. number l.inputs p i) other) in
      subst (λ m. HasValue c point m (not x)) to
      (complement n x (subst (λ m. HasValue c point m x) from (ordered_value d)))

module _ (sizes : Sizes) (few : AreFew sizes) (outputs : List ℕ) (p : Ordered) (sound : AreSound sizes outputs p) where
  pub ordered_fits : (later : List ℕ) (names : Names) → symbols_at (length later) (no_names sizes) later ≡ Ok names → (own : List ℕ)
      → own ≡ map (renumbered sizes.inputs p) outputs → IsCircuit sizes.inputs p.gates own names.inputs names.outputs
  ordered_fits later names symbols own same =
      let count : length own ≡ sizes.outputs = ap length same ∙ length-map outputs (renumbered sizes.inputs p) ∙ sound.count in
      let counts = names_count sizes later names symbols in record {
        few_inputs = few.inputs;
        few_gates = sound.few;
        few_outputs = omega (arith, count, few.outputs);
        left = sound.sound.left;
        right = sound.sound.right;
        literals = subst (All (λ literal. literal < 2 * (sizes.inputs + 1 + length p.gates))) (sym same)
            (All-map (λ literal. literal < 2 * (sizes.inputs + 1 + length p.gates)) (renumbered sizes.inputs p) outputs
            (λ k d lt. renumbered_below sizes.inputs p (get_or outputs k d) sound.sound.up_to));
        in_count = counts.0;
        out_count = counts.1 ∙ sym count;
      }
