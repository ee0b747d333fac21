-- For callers: an arranged circuit is one, and the values of its literals.
use Rattle.std.proofs.Common.{◌≡◌, ℕ, ◌+◌, ◌-◌, ◌*◌, ◌/◌, ◌%◌, ◌^◌, ◌≤◌, ◌<◌, Bool, true, false, not, cond, ◌&&◌, eqb, leb, inl, inr, ◌⊎◌}
use Rattle.std.proofs.Common.{List, [], length, get_or, map, replicate, Some, refl, sym, ap, ◌∙◌, subst, arith}
use Rattle.std.specs.Prelude.{option_map, slice_get}
use Rattle.std.proofs.lemmas.Bool.{and_right, cases_lt, eq-eqb, ne_eqb, le-leb, lt-leb}
use Rattle.std.proofs.lemmas.Bool.Decides.{nat_tests}
use Rattle.std.proofs.lemmas.List.{length-map, get_or-map, get_or-replicate, get_or_default, same_lists}
use Rattle.std.proofs.lemmas.List.Elements.{All-map, All-weaker}
use Rattle.std.proofs.lemmas.List.Folds.{map_fixed}
use Rattle.std.proofs.lemmas.Option.{slice_get-map, slice_get-get_or, slice_get_within}
use Rattle.lattice.specs.Words.{divides, exactly_one}
use Rattle.pla_reader.specs.Orders.{IsOrder, file_order, names_in_order}
use Rattle.aig_reader.specs.declared.circuit.Gate.{Gate}
use Rattle.aig_reader.specs.Circuit.{Circuit, HasValue, constant, input, gate, complement, IsCircuit}
use Rattle.aig_reader.proofs.Values.{one_value, some_value}
use Rattle.aig_inputs.specs.Arranged.{is_inverted, variable_of, arranged, arranged_gate, arranged_literal, file_point}
use Rattle.aig_inputs.specs.Laws.{ArrangedValues, FileOrderKeepsCircuit}
use Rattle.aig_inputs.proofs.Positions.{variable_within, file_places, file_variable}
use Rattle.aig_inputs.proofs.Points.{file_bit}
-- Each point has a point of the file, and each point of the file is that of exactly one point.
pub use Rattle.aig_inputs.proofs.Points.{points_are_arranged}

-- ---- one literal

-- a literal of an input
input_literal : (order : List ℕ) (inverted : List Bool) (literal p : ℕ) (odd : Bool) → literal / 2 ≡ p → eqb (literal % 2) 1 ≡ odd
    → 1 ≤ p → p ≤ length order
    → arranged_literal order inverted literal ≡ 2 * variable_of order p + cond (exactly_one (is_inverted inverted p) odd) 1 0
unfolding arranged_literal
input_literal order inverted literal p odd half low some few = rw (half, low, le-leb 1 p some, le-leb p (length order) few) refl

-- a literal of no input
other_literal : (order : List ℕ) (inverted : List Bool) (literal : ℕ) → (literal / 2 < 1) ⊎ (length order < literal / 2)
    → arranged_literal order inverted literal ≡ literal
unfolding arranged_literal
other_literal order inverted literal (inl none) = rw (lt-leb 1 (literal / 2) none) refl
other_literal order inverted literal (inr more) =
    rw (and_right (leb 1 (literal / 2)) (leb (literal / 2) (length order)) (lt-leb (literal / 2) (length order) more)) refl

-- the literal is one of an input, or of none
literal_cases : (n literal : ℕ) → ((1 ≤ literal / 2) × (literal / 2 ≤ n)) ⊎ ((literal / 2 < 1) ⊎ (n < literal / 2))
literal_cases n literal = elim (cases_lt (literal / 2) 1) [
  | inl none ↦ inr (inl none)
  | inr some ↦ elim (cases_lt n (literal / 2)) [ inl more ↦ inr (inr more) | inr few ↦ inl (some, few) ]
]

literal_below : (n : ℕ) (order : List ℕ) (inverted : List Bool) (literal m : ℕ) → IsOrder n order → n + 1 ≤ m → literal < 2 * m
    → arranged_literal order inverted literal < 2 * m
literal_below n order inverted literal m is more below = elim (literal_cases n literal) [
  | inl one ↦
      let e = input_literal order inverted literal (literal / 2) (eqb (literal % 2) 1) refl refl one.0 (omega (arith, is.count)) in
      grind (arith, e, (variable_within n order is (literal / 2) one.0 one.1).1)
  | inr none ↦ rw (other_literal order inverted literal (subst (λ k. (literal / 2 < 1) ⊎ (k < literal / 2)) (sym is.count) none)) below
]

-- by the order of the file, without inverted inputs
file_literal : (n literal : ℕ) → arranged_literal (file_order n) (replicate n false) literal ≡ literal
file_literal n literal =
    let count = (file_places n).0 in let p : ℕ = literal / 2 in let odd : Bool = eqb (literal % 2) 1 in
    elim (literal_cases n literal) [
      | inl one ↦
          let plain : is_inverted (replicate n false) p ≡ false = get_or-replicate n (p - 1) false false (omega arith) in
          let e = input_literal (file_order n) (replicate n false) literal p odd refl refl one.0 (omega (arith, count)) in
          rw (e, file_variable n p one.0 one.1, plain) (grind (arith, nat_tests))
      | inr none ↦
          other_literal (file_order n) (replicate n false) literal (subst (λ k. (p < 1) ⊎ (k < p)) (sym count) none)
    ]

-- ---- a whole circuit

-- what stands in a list that was mapped comes from what stood there
from_map : {X : Type 0} (f : X → X) (xs : List X) (k : ℕ) (y : X) → slice_get (map f xs) k ≡ Some y
    → (x : X) × (slice_get xs k ≡ Some x) × (f x ≡ y)
from_map f xs k y at =
    let there = slice_get-get_or xs k y (omega (arith, slice_get_within (map f xs) k y at, length-map xs f)) in
    (get_or xs k y, there, cc (slice_get-map f xs k))

-- An arranged circuit is one.
pub arranged_fits : (inputs : ℕ) (gates : List Gate) (outputs : List ℕ) (in_names out_names : List (List ℕ)) (order : List ℕ)
    (inverted : List Bool) → IsOrder inputs order → IsCircuit inputs gates outputs in_names out_names
    → IsCircuit inputs (map (arranged_gate order inverted) gates) (map (arranged_literal order inverted) outputs)
    (names_in_order order in_names) out_names
unfolding names_in_order
arranged_fits inputs gates outputs in_names out_names order inverted is fits =
    let gate = arranged_gate order inverted in let literal = arranged_literal order inverted in
    let small = λ (k l : ℕ). literal_below inputs order inverted l (inputs + 1 + k) is (omega arith) in
    let many = length-map gates gate in let outs = length-map outputs literal in
    let names = length-map order (λ position. get_or in_names (position - 1) []) in record {
      few_inputs = fits.few_inputs;
      few_gates = omega (arith, fits.few_gates, many);
      few_outputs = omega (arith, fits.few_outputs, outs);
      left = λ k g at. let from = from_map gate gates k g at in
          subst (λ h. h.left < 2 * (inputs + 1 + k)) from.2 (small k from.0.left (fits.left k from.0 from.1));
      right = λ k g at. let from = from_map gate gates k g at in
          subst (λ h. h.right < 2 * (inputs + 1 + k)) from.2 (small k from.0.right (fits.right k from.0 from.1));
      literals = rw many (All-map (λ l. l < 2 * (inputs + 1 + length gates)) literal outputs
          (All-weaker (λ l. l < 2 * (inputs + 1 + length gates)) (λ l. literal l < 2 * (inputs + 1 + length gates))
          (small (length gates)) outputs fits.literals));
      in_count = names ∙ is.count;
      out_count = fits.out_count ∙ sym outs;
    }

-- ---- complements

module _ (c : Circuit) (point : ℕ) where
  -- the variable of a complement that has a value has the other one
  uncomplemented : {literal : ℕ} {x : Bool} → HasValue c point literal x → (v : ℕ) → literal ≡ 2 * v + 1 → HasValue c point (2 * v) (not x)
  uncomplemented constant v e = absurd (omega arith)
  uncomplemented (input w some few) v e = absurd (omega arith)
  uncomplemented (gate k g x y at l r) v e = absurd (omega arith)
  uncomplemented (complement w true d) v e = let same : w ≡ v = omega arith in subst (λ u. HasValue c point (2 * u) true) same d
  uncomplemented (complement w false d) v e = let same : w ≡ v = omega arith in subst (λ u. HasValue c point (2 * u) false) same d

  even : (v : ℕ) (x : Bool) → HasValue c point (2 * v) x → HasValue c point (2 * v + 0) x
  even v x d = let same : 2 * v ≡ 2 * v + 0 = omega arith in subst (λ l. HasValue c point l x) same d

  -- a literal whose low bit is set where its variable is inverted
  inverted_value : (v : ℕ) (x inverted : Bool) → HasValue c point (2 * v) x
      → HasValue c point (2 * v + cond (exactly_one inverted false) 1 0) (exactly_one inverted x)
  inverted_value v x true d = complement v x d
  inverted_value v x false d = even v x d

  -- and the literal with the other low bit
  other_value : (v : ℕ) (x inverted : Bool) → HasValue c point (2 * v + cond (exactly_one inverted false) 1 0) x
      → HasValue c point (2 * v + cond (exactly_one inverted true) 1 0) (not x)
  other_value v x true d = even v (not x) (uncomplemented d v refl)
  other_value v x false d = let same : 2 * v + 0 ≡ 2 * v = omega arith in complement v x (subst (λ l. HasValue c point l x) same d)

-- ---- values of arranged literals

module _ (c : Circuit) (order : List ℕ) (inverted : List Bool) (point : ℕ) (is : IsOrder c.inputs order) where
  abbrev there : Circuit
  there = arranged c order inverted

  abbrev file : ℕ
  file = file_point c.inputs order inverted point

  -- the arranged literal of an input, and that of its complement
  module _ (p : ℕ) (some : 1 ≤ p) (few : p ≤ c.inputs) where
    abbrev variable : ℕ
    variable = variable_of order p

    plain : arranged_literal order inverted (2 * p) ≡ 2 * variable + cond (exactly_one (is_inverted inverted p) false) 1 0
    plain =
        let half : 2 * p / 2 ≡ p = omega arith in let low = ne_eqb (2 * p % 2) 1 (λ same. omega arith) in
        input_literal order inverted (2 * p) p false half low some (omega (arith, is.count))

    flipped : arranged_literal order inverted (2 * p + 1) ≡ 2 * variable + cond (exactly_one (is_inverted inverted p) true) 1 0
    flipped =
        let half : (2 * p + 1) / 2 ≡ p = omega arith in let low = eq-eqb ((2 * p + 1) % 2) 1 (omega arith) in
        input_literal order inverted (2 * p + 1) p true half low some (omega (arith, is.count))

    input_value : HasValue there point (arranged_literal order inverted (2 * p)) (divides (2 ^ (c.inputs - p)) file)
    input_value =
        let v = variable in let x : Bool = divides (2 ^ (c.inputs - v)) point in
        let within = variable_within c.inputs order is p some few in
        let own : HasValue there point (2 * v) x = input v within.0 within.1 in
        rw (plain, file_bit c.inputs order inverted point p some few) (inverted_value there point v x (is_inverted inverted p) own)

    input_complement : (x : Bool) → HasValue there point (arranged_literal order inverted (2 * p)) x
        → HasValue there point (arranged_literal order inverted (2 * p + 1)) (not x)
    input_complement x d =
        subst (λ l. HasValue there point l (not x)) (sym flipped)
        (other_value there point variable x (is_inverted inverted p) (subst (λ l. HasValue there point l x) plain d))

  -- a literal of no input
  stays : (literal : ℕ) → (literal / 2 < 1) ⊎ (c.inputs < literal / 2) → arranged_literal order inverted literal ≡ literal
  stays literal none = other_literal order inverted literal (subst (λ k. (literal / 2 < 1) ⊎ (k < literal / 2)) (sym is.count) none)

  complement_value : (v : ℕ) (x : Bool) → HasValue there point (arranged_literal order inverted (2 * v)) x
      → HasValue there point (arranged_literal order inverted (2 * v + 1)) (not x)
  complement_value v x d = elim (literal_cases c.inputs (2 * v)) [
    | inl one ↦ input_complement v (omega (arith, one.0)) (omega (arith, one.1)) x d
    | inr none ↦
        let half : 2 * v / 2 ≡ (2 * v + 1) / 2 = omega arith in
        let own = subst (λ l. HasValue there point l x) (stays (2 * v) none) d in
        subst (λ l. HasValue there point l (not x)) (sym (stays (2 * v + 1) (subst (λ h. (h < 1) ⊎ (c.inputs < h)) half none)))
        (complement v x own)
  ]

  -- a literal has in the arranged circuit the value that it has at the file's point
  value_there : {literal : ℕ} {x : Bool} → HasValue c file literal x
      → HasValue there point (arranged_literal order inverted literal) x
  value_there constant =
      subst (λ l. HasValue there point l false) (sym (stays 0 (inl (omega arith)))) constant
  value_there (input p some few) = input_value p some few
  value_there (gate k g x y at l r) =
      let same = stays (2 * (c.inputs + 1 + k)) (inr (omega arith)) in
      let there_too = slice_get-map (arranged_gate order inverted) c.gates k ∙ ap (option_map (arranged_gate order inverted)) at in
      subst (λ l. HasValue there point l (x && y)) (sym same)
      (gate k (arranged_gate order inverted g) x y there_too (value_there l) (value_there r))
  value_there (complement v x d) = complement_value v x (value_there d)

-- A literal of a circuit has at the file's point the value that its arranged literal has at the point in the arranged circuit.
pub arranged_values : ArrangedValues
arranged_values c order inverted point literal x fits is below = (
  λ d. value_there c order inverted point is d,
  λ d.
      let own = some_value c (file_point c.inputs order inverted point) literal fits below in
      let there : Circuit = arranged c order inverted in
      let same = one_value there point (value_there c order inverted point is own.1) d in
      subst (HasValue c (file_point c.inputs order inverted point) literal) same own.1,
)

-- ---- the order of the file

names_by_file : (n : ℕ) (names : List (List ℕ)) → length names ≡ n → names_in_order (file_order n) names ≡ names
unfolding names_in_order
names_by_file n names count =
    let name : ℕ → List ℕ = λ position. get_or names (position - 1) [] in
    let long = length-map (file_order n) name in let as_many = (file_places n).0 in
    same_lists (map name (file_order n)) names (omega arith) (λ k d less.
    let place = (file_places n).1 (k + 1) 0 (omega arith) (omega arith) in
    grind (arith, get_or-map name (file_order n) k 0 d, get_or_default names k [] d))

-- The order of the file without inverted inputs changes nothing.
pub file_order_keeps_circuit : FileOrderKeepsCircuit
file_order_keeps_circuit c fits =
    let order : List ℕ = file_order c.inputs in let none : List Bool = replicate c.inputs false in
    let outputs = map_fixed (arranged_literal order none) c.outputs (λ k d less. file_literal c.inputs (get_or c.outputs k d)) in
    let gates = map_fixed (arranged_gate order none) c.gates (λ k d less. simp file_literal) in
    simp (gates, outputs, names_by_file c.inputs c.in_names fits.in_count)
