-- Circuits over each other's names.
use Rattle.std.proofs.Common.{◌≡◌, ℕ, ◌+◌, ◌-◌, ◌*◌, ◌<◌, ◌↔◌, Bool, false, List, [], length, get_or, map, replicate, codes}
use Rattle.std.proofs.Common.{Ok, Some, refl, sym, ap, ◌∙◌, subst, arith}
use Rattle.std.specs.Prelude.{slice_get}
use Rattle.std.proofs.lemmas.List.{get_or-map, length-map}
use Rattle.std.proofs.lemmas.Option.{get_or_from_slice_get, slice_get_within}
use Rattle.lattice.proofs.Polynomials.{ok_is}
use Rattle.pla_reader.specs.Orders.{IsOrder, file_order, names_in_order}
use Rattle.pla_reader.specs.PrintedNames.{printed_names}
use Rattle.pla_reader.proofs.ArrangedInputs.{count_printed}
use Rattle.aig_reader.specs.declared.circuit.Aig.{Aig}
use Rattle.aig_reader.specs.declared.circuit.Gate.{Gate}
use Rattle.aig_reader.specs.Circuit.{Circuit, HasValue, constant, input, gate, complement, IsCircuit}
use Rattle.aig_reader.specs.Reading.{circuit}
use Rattle.aig_inputs.specs.Arranged.{arranged, arranged_literal, file_point}
use Rattle.aig_inputs.proofs.ArrangedCircuits.{arranged_values, file_order_keeps_circuit}
use Rattle.aig_pairs.specs.Matching.{OrdersInputs, OrdersOutputs, PutsInOrder, in_output_order, input_names, output_names, rearranged}
use Rattle.aig_pairs.specs.Matching.{same_names, other_inputs, other_outputs}
use Rattle.aig_pairs.specs.Laws.{IsSound, OneMatch, MatchedValues, MatchedWithItself}
use Rattle.aig_pairs.proofs.Naming.{AreDifferent, printed_differ, one_place, as_many, name_at, order_once, by_file, puts_by_file}

-- ---- names

inputs_differ : (c : Circuit) → IsSound c → AreDifferent (input_names c)
inputs_differ c sound = printed_differ (codes "x") c.inputs c.in_names (omega (arith, sound.few_inputs))

outputs_differ : (c : Circuit) → IsSound c → AreDifferent (output_names c)
outputs_differ c sound = printed_differ (codes "f") (length c.outputs) c.out_names sound.few_outputs

pub count_inputs : (c : Circuit) → IsSound c → length (input_names c) ≡ c.inputs
count_inputs c sound = count_printed (codes "x") c.inputs c.in_names (input_names c) (input_names c) (λ some. sound.in_count) refl refl

pub count_outputs : (c : Circuit) → IsSound c → length (output_names c) ≡ length c.outputs
count_outputs c sound =
    count_printed (codes "f") (length c.outputs) c.out_names (output_names c) (output_names c) (λ some. sound.out_count) refl refl

-- ---- orders of inputs and outputs

-- the names that an answer has are those of its circuit
pub by_inputs : (first second : Aig) (order : List ℕ) → PutsInOrder (printed_names (codes "x") (length second.in_names) second.in_names)
    (printed_names (codes "x") (length first.in_names) first.in_names) order ↔ OrdersInputs (circuit first) (circuit second) order
by_inputs first second order = rw (first.fits.in_count, second.fits.in_count) (λ p. p, λ p. p)

pub by_outputs : (first second : Aig) (order : List ℕ) → PutsInOrder (printed_names (codes "f") (length second.out_names) second.out_names)
    (printed_names (codes "f") (length first.out_names) first.out_names) order ↔ OrdersOutputs (circuit first) (circuit second) order
by_outputs first second order = rw (first.fits.out_count, second.fits.out_count) (λ p. p, λ p. p)

-- such an order is one of all of them, and there are as many of the first circuit's
pub of_inputs : (first second : Circuit) (order : List ℕ) → IsSound first → IsSound second → OrdersInputs first second order
    → IsOrder second.inputs order × (second.inputs ≡ first.inputs)
of_inputs first second order sound also puts = (
  subst (λ n. IsOrder n order) (count_inputs second also) puts.positions,
  sym (count_inputs second also) ∙ sym puts.positions.count ∙ as_many (input_names second) (input_names first) order puts.named
      ∙ count_inputs first sound,
)

pub of_outputs : (first second : Circuit) (order : List ℕ) → IsSound first → IsSound second → OrdersOutputs first second order
    → IsOrder (length second.outputs) order × (length order ≡ length first.outputs)
of_outputs first second order sound also puts = (
  subst (λ n. IsOrder n order) (count_outputs second also) puts.positions,
  as_many (output_names second) (output_names first) order puts.named ∙ count_outputs first sound,
)

-- a circuit whose outputs stand in an order is one
pub outputs_fit : (inputs : ℕ) (gates : List Gate) (outputs : List ℕ) (in_names out_names : List (List ℕ)) (order : List ℕ)
    → IsOrder (length outputs) order → IsCircuit inputs gates outputs in_names out_names
    → IsCircuit inputs gates (map (λ p. get_or outputs (p - 1) 0) order) in_names (names_in_order order out_names)
unfolding names_in_order
outputs_fit inputs gates outputs in_names out_names order is fits =
    let at = λ (p : ℕ). get_or outputs (p - 1) 0 in let name = λ (p : ℕ). get_or out_names (p - 1) [] in
    let many = length-map order at in record {
      few_inputs = fits.few_inputs;
      few_gates = fits.few_gates;
      few_outputs = omega (arith, fits.few_outputs, many, is.count);
      left = fits.left;
      right = fits.right;
      literals = λ k d less. let p = is.positions k 0 (omega arith) in
          subst (λ l. l < 2 * (inputs + 1 + length gates)) (sym (get_or-map at order k 0 d (omega arith)))
          (fits.literals (get_or order k 0 - 1) 0 (omega (arith, p)));
      in_count = fits.in_count;
      out_count = length-map order name ∙ sym many;
    }

-- ---- one match

-- Two circuits are matched in one way at most, or for one cause in none.
pub one_match : OneMatch
one_match first second a b sound also (same_names i o pi po e) (same_names j p qi qo f) =
    let ins = order_once (input_names second) (input_names first) (inputs_differ second also) i j pi qi in
    let outs = order_once (output_names second) (output_names first) (outputs_differ second also) o p po qo in
    e ∙ ap (λ order. Ok (rearranged second order o)) ins ∙ ap (λ order. Ok (rearranged second j order)) outs ∙ sym f
one_match first second a b sound also (same_names i o pi po e) (other_inputs absent f) = absurd (absent i pi)
one_match first second a b sound also (same_names i o pi po e) (other_outputs j qi absent f) = absurd (absent o po)
one_match first second a b sound also (other_inputs absent e) (same_names j p qi qo f) = absurd (absent j qi)
one_match first second a b sound also (other_inputs absent e) (other_inputs never f) = e ∙ sym f
one_match first second a b sound also (other_inputs absent e) (other_outputs j qi never f) = absurd (absent j qi)
one_match first second a b sound also (other_outputs i pi absent e) (same_names j p qi qo f) = absurd (absent p qo)
one_match first second a b sound also (other_outputs i pi absent e) (other_inputs never f) = absurd (never i pi)
one_match first second a b sound also (other_outputs i pi absent e) (other_outputs j qi never f) = e ∙ sym f

-- ---- values

-- they stand on inputs and gates alone
module _ (c : Circuit) (outputs : List ℕ) (out_names : List (List ℕ)) (point : ℕ) where
  abbrev other : Circuit
  other = record c { outputs = outputs; out_names = out_names }

  value_there : {literal : ℕ} {x : Bool} → HasValue c point literal x → HasValue other point literal x
  value_there constant = constant
  value_there (input v some few) = input v some few
  value_there (gate k g x y at l r) = gate k g x y at (value_there l) (value_there r)
  value_there (complement v x d) = complement v x (value_there d)

  value_back : {literal : ℕ} {x : Bool} → HasValue other point literal x → HasValue c point literal x
  value_back constant = constant
  value_back (input v some few) = input v some few
  value_back (gate k g x y at l r) = gate k g x y at (value_back l) (value_back r)
  value_back (complement v x d) = complement v x (value_back d)

module _ (first second : Circuit) (sound : IsSound second) (order : List ℕ) (outs : List ℕ) where
  abbrev none : List Bool
  none = replicate second.inputs false

  abbrev literal_there : ℕ → ℕ
  literal_there = arranged_literal order none

  -- the output at the place of a name is the literal of the output of this name
  output_there : (name : List ℕ) (j k literal own : ℕ) → OrdersOutputs first second outs → slice_get (output_names first) j ≡ Some name
      → slice_get (rearranged second order outs).outputs j ≡ Some own → slice_get (output_names second) k ≡ Some name
      → slice_get second.outputs k ≡ Some literal → own ≡ literal_there literal
  output_there name j k literal own puts named own_at also at =
      let theirs = output_names first in let ours = output_names second in let literals = map literal_there second.outputs in
      let place = λ (p : ℕ). get_or literals (p - 1) 0 in
      let less : j < length outs = omega (arith, slice_get_within (map place outs) j own own_at, length-map outs place) in
      let bounds = puts.positions.positions j 0 less in
      let same : get_or ours (get_or outs j 0 - 1) [] ≡ get_or ours k [] =
      sym (name_at ours theirs outs j 0 puts.named less) ∙ get_or_from_slice_get theirs j name [] named
      ∙ sym (get_or_from_slice_get ours k name [] also) in
      let is_k : get_or outs j 0 - 1 ≡ k = one_place ours (outputs_differ second sound) (get_or outs j 0 - 1) k (omega (arith, bounds))
      (slice_get_within ours k name also) same in
      sym (get_or_from_slice_get (map place outs) j own 0 own_at) ∙ get_or-map place outs j 0 0 less ∙ ap (λ i. get_or literals i 0) is_k
      ∙ get_or-map literal_there second.outputs k 0 0 (slice_get_within second.outputs k literal at)
      ∙ ap literal_there (get_or_from_slice_get second.outputs k literal 0 at)

  values_there : (point literal own : ℕ) (x : Bool) → IsOrder second.inputs order → own ≡ literal_there literal
      → literal < 2 * (second.inputs + 1 + length second.gates)
      → HasValue second (file_point second.inputs order none point) literal x ↔ HasValue (rearranged second order outs) point own x
  values_there point literal own x is own_is below =
      let over = arranged second order none in let all = rearranged second order outs in
      let values = arranged_values second order none point literal x sound is below in (
        λ d. subst (λ l. HasValue all point l x) (sym own_is) (value_there over all.outputs all.out_names point (values.0 d)),
        λ d. values.1 (value_back over all.outputs all.out_names point (subst (λ l. HasValue all point l x) own_is d)),
      )

-- An output has the value of the output of its name, where each input has the bit of the input of its name.
pub matched_values : MatchedValues
matched_values first second matched order name point j k literal own x sound also (same_names i o pi po e) puts named own_at ours_at at =
    let is_i : i ≡ order = order_once (input_names second) (input_names first) (inputs_differ second also) i order pi puts in
    let whole : matched ≡ rearranged second order o = ok_is (Ok matched) refl (e ∙ ap (λ p. Ok (rearranged second p o)) is_i) in
    let is_order = subst (λ n. IsOrder n order) (count_inputs second also) puts.positions in
    subst (λ c. HasValue second (file_point second.inputs order (replicate second.inputs false) point) literal x ↔ HasValue c point own x)
    (sym whole) (values_there first second also order o point literal own x is_order
    (output_there first second also order o name j k literal own po named
    (subst (λ c. slice_get c.outputs j ≡ Some own) whole own_at) ours_at at)
    (rw (sym (get_or_from_slice_get second.outputs k literal 0 at)) (also.literals k 0 (slice_get_within second.outputs k literal at))))
matched_values first second matched order name point j k literal own x sound also (other_inputs absent e) puts n p q r =
    absurd cc
matched_values first second matched order name point j k literal own x sound also (other_outputs i pi absent e) puts n p q r =
    absurd cc

-- A circuit that is matched with itself stays as it is.
pub matched_with_itself : MatchedWithItself
matched_with_itself c sound =
    let inputs = file_order c.inputs in let outputs = file_order (length c.outputs) in
    let same = file_order_keeps_circuit c sound in
    let outs = by_file (length c.outputs) c.outputs 0 refl in
    let names = (puts_by_file (length c.outputs) c.out_names sound.out_count).named in
    same_names inputs outputs (puts_by_file c.inputs (input_names c) (count_inputs c sound))
    (puts_by_file (length c.outputs) (output_names c) (count_outputs c sound))
    (ap Ok (sym (ap (λ d. in_output_order d outputs) same ∙ cc)))
