-- What a job sees of a circuit, from what the texts of its options say.
use Rattle.std.proofs.Common.{◌≡◌, ◌≢◌, ◌∙◌, ℕ, suc, zero, ◌+◌, ◌<◌, ◌≤◌, eqb, Bool, true, false, List, [], ◌∷◌, ◌++◌, length}
use Rattle.std.proofs.Common.{add-one, ap, arith, codes, inl, inr, refl, rules, subst, sym, Option, Some, None, length-append, true≢false}
use Rattle.std.specs.Prelude.{◌↔◌, ◌==◌, Ok, Err, Result, ok_or, option_map, position}
use Rattle.std.specs.List.{All, AllPairs}
use Rattle.std.specs.Option.{ForSome}
use Rattle.std.specs.Str.{bytes_eq}
use Rattle.std.proofs.lemmas.Bool.{cases_Bool, eq-eqb, false_from_ne_true}
use Rattle.std.proofs.lemmas.Bool.Decides.{nat_tests}
use Rattle.std.proofs.lemmas.List.{length-map, length-replicate, map-append}
use Rattle.std.proofs.lemmas.List.Elements.{All-head, All-nil, All-push, All-tail, All-weaker}
use Rattle.std.proofs.lemmas.List.Folds.{Any-from_list_any, list_all_at, list_any_at}
use Rattle.std.proofs.lemmas.List.Quantifiers.{all_pairs_push}
use Rattle.lattice.specs.Words.{has, numbers_below}
use Rattle.lattice.proofs.Polynomials.{length-numbers_below, ok_is}
use Rattle.pla_reader.specs.Orders.{IsOrder, file_order, is_order, order_named}
use Rattle.pla_reader.specs.PrintedNames.{printed_names}
use Rattle.pla_reader.specs.declared.order.OrderRefusal.{OrderRefusal}
use Rattle.pla_reader.specs.declared.order.OrderRefusal.TheVariants as unnamed
use Rattle.pla_reader.proofs.ArrangedInputs.{count_printed, orders_by_test}
use Rattle.aig_pairs.specs.Matching.{input_names, output_names}
use Rattle.aig_reader.specs.Circuit.{Circuit, IsCircuit}
use Rattle.aig_reader.specs.Reading.{circuit}
use Rattle.aig_reader.specs.declared.circuit.Aig.{Aig}
use Rattle.aig_inputs.specs.Arranged.{arranged, arranged_literal}
use Rattle.aig_inputs.specs.Names.{AreInputs, inverted_named, marked_names}
use Rattle.aig_inputs.proofs.ArrangedCircuits.{arranged_fits}
use Rattle.circuit_solve.specs.Laws.{IsAsked}
use Rattle.circuit_words.specs.declared.job.CircuitJob.{CircuitJob}
use Rattle.program.specs.declared.outcome.Outcome.{Outcome}
use Rattle.program.specs.declared.outcome.Outcome.TheVariants as ends
use Rattle.circuit_run.specs.Parts.{IsEndOf, IsWhole, unnamed_outcome}
use Rattle.circuit_run.specs.Views.{◌>>=◌, View, are_inputs, care_by, inverted_by, order_by, view_of}
use Rattle.circuit_run.specs.declared.ends.CircuitEnd.{CircuitEnd}
use Rattle.circuit_run.specs.declared.ends.CircuitEnd.TheVariants.{Care, Invert, NoInputs, Order}

-- ---- names

-- as many are printed as there are inputs or outputs
pub count_names : (letter : List ℕ) (count : ℕ) (given names chosen : List (List ℕ)) → length given ≡ count → names ≡ chosen
    → chosen ≡ printed_names letter count given → length names ≡ count
count_names letter count given names chosen counts is printed = count_printed letter count given names chosen (λ some. counts) is printed

-- ---- the order of the file, one input more

pub order_pushed : (n : ℕ) (order : List ℕ) → IsOrder n order → IsOrder (n + 1) (order ++ (n + 1) ∷ [])
order_pushed n order is =
    let within = λ (position : ℕ). (1 ≤ position) × (position ≤ n + 1) in
    record {
      count = omega (arith, length-append order ((n + 1) ∷ []), is.count);
      positions = All-push within order (n + 1)
          (All-weaker (λ (position : ℕ). (1 ≤ position) × (position ≤ n)) within (λ position h. (h.0, omega (arith, h.1))) order
          is.positions) (omega arith, omega arith);
      distinct = all_pairs_push (λ i j. i ≢ j) order (n + 1) is.distinct
          (λ k d less same. omega (arith, (is.positions k d less).1, same));
    }

pub file_grows : (file_order 0 ≡ []) × ((n : ℕ) → file_order (n + 1) ≡ file_order n ++ ((n + 1) ∷ []))
unfolding file_order numbers_below
file_grows = (refl, λ n. search (rules, arith, add-one, map-append))

pub file_tested : (n : ℕ) → is_order n (file_order n) ≡ true
file_tested zero = rw file_grows.0 ((orders_by_test 0 []).1 (record {
  count = refl;
  positions = All-nil (λ position. (1 ≤ position) × (position ≤ 0));
  distinct = λ i j d before within. omega arith;
}))
file_tested (suc n) =
    let so_far = (orders_by_test n (file_order n)).0 (file_tested n) in let next : n + 1 ≡ suc n = omega arith in
    subst (λ (m : ℕ). is_order m (file_order m) ≡ true) next
    (rw (file_grows.1 n) ((orders_by_test (n + 1) (file_order n ++ ((n + 1) ∷ []))).1 (order_pushed n (file_order n) so_far)))

-- ---- inputs that are named, each once

module _ (n : ℕ) where
  tested : (xs : List ℕ) → AreInputs n xs → are_inputs n xs ≡ true
  unfolding has
  tested [] are = refl
  tested (x ∷ xs) are =
      let later = tested xs (record {
        known = All-tail (λ position. position ≤ n) x xs are.known;
        once = λ i j d before within. are.once (suc i) (suc j) d (omega arith) (omega arith);
      }) in
      let none : has xs x ≡ false = false_from_ne_true (has xs x) (λ found.
      let any = Any-from_list_any (λ y. eqb y x) xs found in grind (arith, are.once 0 (suc any.0) any.1)) in
      let here : x ≤ n = All-head (λ position. position ≤ n) x xs are.known in grind (arith, nat_tests)

  known : (xs : List ℕ) → are_inputs n xs ≡ true → All (λ position. position ≤ n) xs
  known xs test k d less = grind (arith, cases_Bool, nat_tests, true≢false, list_all_at)

  once : (xs : List ℕ) → are_inputs n xs ≡ true → AllPairs (λ i j. i ≢ j) xs
  unfolding has
  once [] test i j d before within same = omega arith
  once (x ∷ xs) test i zero d before within same = omega arith
  once (x ∷ xs) test zero (suc j) d before within same = grind (arith, list_any_at, eqb, eq-eqb, true≢false)
  once (x ∷ xs) test (suc i) (suc j) d before within same = once xs (grind arith) i j d (omega arith) (omega arith) same

  pub inputs_by_test : (positions : List ℕ) → (are_inputs n positions ≡ true) ↔ AreInputs n positions
  inputs_by_test positions = (λ test. record { known = known positions test; once = once positions test }, tested positions)

-- ---- what the texts of the options say

module _ (names : List (List ℕ)) (text : List ℕ) {given : Option (List ℕ)} (is : given ≡ Some text) where
  abbrev named : List ℕ
  named = order_named names text

  pub order_given : {order : List ℕ} → order ≡ named → IsOrder (length names) named → order_by names given ≡ Ok order
  order_given same good = rw (is, (orders_by_test (length names) named).1 good, same)

  pub order_refused : (refusal : OrderRefusal) → (refusal ≡ unnamed.Bad → IsOrder (length names) named → ⊥)
      → IsEndOf (order_by names given) (unnamed_outcome Order refusal)
  order_refused unnamed.Bad none =
      let no = false_from_ne_true (is_order (length names) named) (λ yes. none refl ((orders_by_test (length names) named).0 yes)) in
      rw (is, no)
  order_refused unnamed.Memory none = tt

  pub inverted_given : {inverted : List Bool} → inverted ≡ inverted_named names text → AreInputs (length names) named
      → inverted_by names given ≡ Ok inverted
  inverted_given same good = rw (is, (inputs_by_test (length names) named).1 good, same)

  pub inverted_refused : (refusal : OrderRefusal) → (refusal ≡ unnamed.Bad → AreInputs (length names) named → ⊥)
      → IsEndOf (inverted_by names given) (unnamed_outcome Invert refusal)
  inverted_refused unnamed.Bad none =
      let no = false_from_ne_true (are_inputs (length names) named) (λ yes. none refl ((inputs_by_test (length names) named).0 yes)) in
      rw (is, no)
  inverted_refused unnamed.Memory none = tt

-- as many inputs are said to be inverted as have names
pub inverted_count : (names : List (List ℕ)) (given : Option (List ℕ)) {inverted : List Bool} → inverted_by names given ≡ Ok inverted
    → length inverted ≡ length names
unfolding inverted_named file_order
inverted_count names None is = grind (arith, length-replicate)
inverted_count names (Some text) is = grind (arith, length-map, length-numbers_below)

-- the output that is found
pub care_found : (names : List (List ℕ)) (text : List ℕ) {given : Option (List ℕ)} → given ≡ Some text → (output : Option ℕ)
    → output ≡ position (λ name. bytes_eq name text) names
    → care_by names given ≡ ok_or (option_map (λ output. Some output) output) Care
care_found names text is output same = rw (is, same)

-- it is one of them
pub care_within : (names : List (List ℕ)) (given : Option (List ℕ)) {care : Option ℕ} → care_by names given ≡ Ok care
    → ForSome care (λ output. output < length names)
care_within names None is output some = cc
care_within names (Some text) is output some = grind (arith, nat_tests)

-- an order by which inputs are seen is one
pub order_good : (names : List (List ℕ)) (given : Option (List ℕ)) {order : List ℕ} → order_by names given ≡ Ok order
    → IsOrder (length names) order
order_good names None is =
    let n = length names in
    subst (IsOrder n) (ok_is (order_by names None) refl is) ((orders_by_test n (file_order n)).0 (file_tested n))
order_good names (Some text) is = elim (cases_Bool (is_order (length names) (order_named names text))) [
  | inl good ↦
      let same = ok_is (order_by names (Some text)) (rw good refl) is in
      subst (IsOrder (length names)) same ((orders_by_test (length names) (order_named names text)).0 good)
  | inr bad ↦ let none : order_by names (Some text) ≡ Err Order = rw bad refl in cc
]

-- ---- the view

-- what is not found has no further step
pub unseen : {A B : Type 0} (o : Outcome CircuitEnd) (found : Result A CircuitEnd) (next : A → Result B CircuitEnd) → IsEndOf found o
    → IsEndOf (found >>= next) o
unseen (ends.Own end) found next is = rw is refl
unseen ends.Memory found next is = tt
unseen _ found next is = is

module _ (job : CircuitJob) (c : Circuit) where
  -- what is seen with inputs
  abbrev pub with_care : (order : List ℕ) (inverted : List Bool) → Option ℕ → Result View CircuitEnd
  with_care order inverted care =
      Ok (record { circuit = arranged c order inverted; in_names = marked_names order inverted (input_names c); care = care })

  abbrev pub with_inverted : (order : List ℕ) → List Bool → Result View CircuitEnd
  with_inverted order inverted = care_by (output_names c) job.care >>= with_care order inverted

  abbrev pub with_order : List ℕ → Result View CircuitEnd
  with_order order = inverted_by (input_names c) job.invert >>= with_inverted order

  pub view_without : (c.inputs == 0) ≡ true → view_of job c ≡ Err NoInputs
  unfolding view_of
  view_without none = rw none refl

  view_with : (c.inputs == 0) ≡ false → view_of job c ≡ (order_by (input_names c) job.order >>= with_order)
  unfolding view_of
  view_with some = rw some refl

  pub unordered : (o : Outcome CircuitEnd) → (c.inputs == 0) ≡ false → IsEndOf (order_by (input_names c) job.order) o
      → IsEndOf (view_of job c) o
  unordered o some ends = rw (view_with some) (unseen o (order_by (input_names c) job.order) with_order ends)

  module _ (some : (c.inputs == 0) ≡ false) {order : List ℕ} (ordered : order_by (input_names c) job.order ≡ Ok order) where
    view_ordered : view_of job c ≡ with_order order
    view_ordered = view_with some ∙ rw ordered refl

    pub uninverted : (o : Outcome CircuitEnd) → IsEndOf (inverted_by (input_names c) job.invert) o → IsEndOf (view_of job c) o
    uninverted o ends = rw view_ordered (unseen o (inverted_by (input_names c) job.invert) (with_inverted order) ends)

    module _ {inverted : List Bool} (inverts : inverted_by (input_names c) job.invert ≡ Ok inverted) where
      view_inverted : view_of job c ≡ with_inverted order inverted
      view_inverted = view_ordered ∙ rw inverts refl

      pub uncared : (o : Outcome CircuitEnd) → IsEndOf (care_by (output_names c) job.care) o → IsEndOf (view_of job c) o
      uncared o ends = rw view_inverted (unseen o (care_by (output_names c) job.care) (with_care order inverted) ends)

      pub view_whole : {care : Option ℕ} → care_by (output_names c) job.care ≡ Ok care → view_of job c ≡ with_care order inverted care
      view_whole cares = view_inverted ∙ rw cares refl

-- a view has inputs and their names
pub seen_whole : (c : Circuit) (order : List ℕ) (inverted : List Bool) (v : View) → v.circuit ≡ arranged c order inverted
    → v.in_names ≡ marked_names order inverted (input_names c) → (c.inputs == 0) ≡ false → IsOrder c.inputs order
    → IsCircuit v.circuit.inputs v.circuit.gates v.circuit.outputs v.circuit.in_names v.circuit.out_names
    → ForSome v.care (λ output. output < length c.outputs) → IsWhole v
unfolding marked_names
seen_whole c order inverted v is names some good fits within =
    let inputs : v.circuit.inputs ≡ c.inputs = ap (λ (c : Circuit). c.inputs) is in
    let outputs : length v.circuit.outputs ≡ length c.outputs =
    ap (λ (c : Circuit). length c.outputs) is ∙ length-map c.outputs (arranged_literal order inverted) in
    record {
      some = grind (arith, nat_tests);
      names = ap length names ∙ (length-map order _ ∙ (good.count ∙ sym inputs));
      asked = record { fits = fits; within = λ output some. omega (arith, within output some, outputs) };
    }

-- what is seen of a circuit
pub record IsSeen (job : CircuitJob) (c : Circuit) (v : View) : Type 0 where
  pub order : List ℕ
  pub inverted : List Bool
  pub ordered : order_by (input_names c) job.order ≡ Ok order
  pub inverts : inverted_by (input_names c) job.invert ≡ Ok inverted
  pub cares : care_by (output_names c) job.care ≡ Ok v.care
  pub is : v.circuit ≡ arranged c order inverted

pub seen_parts : (job : CircuitJob) (c : Circuit) (v : View) → view_of job c ≡ Ok v → IsSeen job c v
seen_parts job c v seen = elim (cases_Bool (c.inputs == 0)) [
  | inl none ↦ let other = view_without job c none in cc
  | inr some ↦ by_order (order_by (input_names c) job.order) refl (sym (view_with job c some) ∙ seen)
]
  where
    by_care : (order : List ℕ) (inverted : List Bool) → order_by (input_names c) job.order ≡ Ok order
        → inverted_by (input_names c) job.invert ≡ Ok inverted → (a : Result (Option ℕ) CircuitEnd)
        → care_by (output_names c) job.care ≡ a → (a >>= with_care job c order inverted) ≡ Ok v → IsSeen job c v
    by_care order inverted ordered inverts (Err end) x is = cc
    by_care order inverted ordered inverts (Ok care) x is =
        let same : v ≡ record { circuit = arranged c order inverted; in_names = marked_names order inverted (input_names c); care = care }
        = cc in
        record {
          order = order;
          inverted = inverted;
          ordered = ordered;
          inverts = inverts;
          cares = x ∙ ap Ok (sym (ap (λ (v : View). v.care) same));
          is = ap (λ (v : View). v.circuit) same;
        }

    by_inverted : (order : List ℕ) → order_by (input_names c) job.order ≡ Ok order
        → (a : Result (List Bool) CircuitEnd) → inverted_by (input_names c) job.invert ≡ a → (a >>= with_inverted job c order) ≡ Ok v
        → IsSeen job c v
    by_inverted order ordered (Err end) x is = cc
    by_inverted order ordered (Ok inverted) x is = by_care order inverted ordered x _ refl is

    by_order : (a : Result (List ℕ) CircuitEnd) → order_by (input_names c) job.order ≡ a
        → (a >>= with_order job c) ≡ Ok v → IsSeen job c v
    by_order (Err end) x is = cc
    by_order (Ok order) x is = by_inverted order x _ refl is

-- it is a circuit with the output that says which points are cared for
pub seen_asked : (aig : Aig) (job : CircuitJob) (v : View) → view_of job (circuit aig) ≡ Ok v → IsAsked v.circuit v.care
seen_asked aig job v seen =
    let c = circuit aig in let is = seen_parts job c v seen in
    let inputs = count_names (codes "x") c.inputs c.in_names (input_names c) (input_names c) aig.fits.in_count refl refl in
    let outputs = count_names (codes "f") (length c.outputs) c.out_names (output_names c) (output_names c) aig.fits.out_count refl refl in
    let good = rw inputs at (order_good (input_names c) job.order is.ordered) in
    rw is.is (record {
      fits = arranged_fits c.inputs c.gates c.outputs c.in_names c.out_names is.order is.inverted good aig.fits;
      within = λ output some. let less = care_within (output_names c) job.care is.cares output some in
          omega (arith, outputs, length-map c.outputs (arranged_literal is.order is.inverted));
    })
