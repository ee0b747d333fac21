-- What is due for two circuits without gates in mode equal.
use Rattle.std.proofs.Common.{◌≡◌, ◌<◌, ◌≤◌, ◌+◌, ℕ, zero, suc, Bool, true, false, not, ◌&&◌, subst, refl, List, [], ◌∷◌, ◌++◌, codes}
use Rattle.std.proofs.Common.{length, lit<, lit≤, arith, inl, Option, None, Some}
use Rattle.std.specs.Prelude.{Ok}
use Rattle.std.specs.Fmt.{digits}
use Rattle.std.proofs.lemmas.List.Elements.{All-cons, All-nil}
use Rattle.lattice.specs.Words.{combine, divides, family_where, has, high_cofactor, includes, interpolate, join, low_cofactor, lower_points}
use Rattle.lattice.specs.Words.{numbers_below, ones_of, product_of, sub, upper_ones, upper_zeros, value, polynomial_where, distinct}
use Rattle.lattice.specs.Words.{interpolation_list, ones_list, product_list, working_set}
use Rattle.pla_reader.specs.Orders.{file_order, is_order, names_in_order}
use Rattle.pla_reader.specs.PlainNames.{are_plain, is_plain}
use Rattle.pla_reader.specs.PrintedNames.{numbered, printed_names}
use Rattle.pla_reader.proofs.ArrangedInputs.{orders_by_test}
use Rattle.aig_reader.specs.Circuit.{Circuit}
use Rattle.aig_reader.specs.Fields.{behind, difference_at, gate_at, literal_at, many, number_at, operand_at, output_at}
use Rattle.aig_reader.specs.Reading.{IsReading, binary, binary_at, header_end_at, name_at, size_at, sizes_at, symbol_at, symbols_at}
use Rattle.aig_reader.specs.declared.circuit.Aig.{Aig}
use Rattle.aig_inputs.specs.Arranged.{arranged_literal, variable_of}
use Rattle.aig_inputs.specs.Names.{inverted_named, marked_names}
use Rattle.aig_miter.specs.Miter.{complement_of, miter, miter_gates, miter_outputs, moved_literal}
use Rattle.aig_miter.proofs.Miters.{miter_is_circuit}
use Rattle.aig_pairs.specs.Laws.{IsSound}
use Rattle.aig_pairs.specs.Matching.{Matches, OrdersInputs, OrdersOutputs, other_inputs, same_names}
use Rattle.aig_pairs.specs.Pairs.{NoneBelow, ReadsPair, in_parts, may_begin, whole}
use Rattle.aig_pairs.proofs.PairLaws.{not_begun, one_more}
use Rattle.circuit_solve.specs.Answers.{care_points}
use Rattle.circuit_solve.specs.Laws.{IsAsked}
use Rattle.circuit_solve.specs.Ones.{asked_polynomials, least_ones_by}
use Rattle.circuit_solve.proofs.Solutions.{ones_are_least}
use Rattle.circuit_words.specs.Laws.{usual_job}
use Rattle.circuit_words.specs.declared.job.CircuitJob.{CircuitJob}
use Rattle.circuit_words.specs.declared.job.CircuitMode.TheVariants.{Equal}
use Rattle.gate_build.specs.Polynomials.{at_literal, polynomial_of, polynomials_of, with_gates}
use Rattle.gate_build.specs.Steps.{choice_of, circuit_list, inner_gate, needed_steps, step_of, steps_of}
use Rattle.gate_build.specs.Steps.{complement_of as step_complement}
use Rattle.program.specs.Duties.{IsDueFor, done, paged, silent, within}
use Rattle.program.specs.declared.outcome.Outcome.TheVariants as ends
use Rattle.circuit_run.specs.Due.{CircuitDue, IsDueOn, compared, no_circuit, on_view, with_points}
use Rattle.circuit_run.specs.Duty.{circuit_duty}
use Rattle.circuit_run.specs.Laws.{one_constant, two_inputs, wires}
use Rattle.circuit_run.specs.Subjects.{IsSubject, matched, of_two, one_alone}
use Rattle.circuit_run.specs.Subjects.{other_inputs as unlike}
use Rattle.circuit_run.specs.Texts.{point_text}
use Rattle.circuit_run.specs.Views.{View, view_of}
use Rattle.circuit_run.specs.declared.ends.CircuitEnd.TheVariants.{Alone, Different, OtherInputs}
use Rattle.circuit_run.proofs.Seeing.{seen_asked}

-- ---- circuits of one input or more, and two outputs

abbrev wired : (inputs : ℕ) → (in_names : List (List ℕ)) → (second : ℕ) → Circuit
wired inputs in_names second =
    record { inputs = inputs; gates = []; outputs = 2 ∷ second ∷ []; in_names = in_names; out_names = [] ∷ [] ∷ [] }

abbrev wire : (second : ℕ) → Circuit
wire = wired 1 ([] ∷ [])

abbrev wider : Circuit
wider = wired 2 ([] ∷ [] ∷ []) 2

sound : (second : ℕ) → second < 4 → IsSound (wire second)
sound second less = record {
  few_inputs = lit≤ tt;
  few_gates = lit≤ tt;
  few_outputs = lit≤ tt;
  left = λ k g at. cc;
  right = λ k g at. cc;
  literals = All-cons (λ literal. literal < 4) 2 (second ∷ []) (lit< tt)
      (All-cons (λ literal. literal < 4) second [] less (All-nil (λ literal. literal < 4)));
  in_count = refl;
  out_count = refl;
}

wider_sound : IsSound wider
wider_sound = record {
  few_inputs = lit≤ tt;
  few_gates = lit≤ tt;
  few_outputs = lit≤ tt;
  left = λ k g at. cc;
  right = λ k g at. cc;
  literals = All-cons (λ literal. literal < 6) 2 (2 ∷ []) (lit< tt)
      (All-cons (λ literal. literal < 6) 2 [] (lit< tt) (All-nil (λ literal. literal < 6)));
  in_count = refl;
  out_count = refl;
}

-- ---- their files

-- no second circuit begins below a place
abbrev none_begins : (bytes : List ℕ) → (place : ℕ) → Bool
none_begins bytes zero = true
none_begins bytes (suc place) = not (may_begin bytes place) && none_begins bytes place

none_below : (bytes : List ℕ) (place : ℕ) → none_begins bytes place ≡ true → NoneBelow bytes place
none_below bytes zero e = λ at first less part. absurd (omega (arith, less))
none_below bytes (suc place) e =
    let here : may_begin bytes place ≡ false = grind arith in let before : none_begins bytes place ≡ true = grind arith in
    let next : place + 1 ≡ suc place = omega arith in
    subst (NoneBelow bytes) next (one_more bytes place (none_below bytes place before) (not_begun bytes place here))

abbrev same_file : List ℕ
same_file = wires ++ wires

abbrev other_file : List ℕ
other_file = wires ++ one_constant

abbrev wider_file : List ℕ
wider_file = wires ++ two_inputs

read_wires : IsReading wires (Ok (wire 2)) × IsReading one_constant (Ok (wire 1)) × IsReading two_inputs (Ok wider)
unfolding binary_at sizes_at size_at header_end_at number_at behind literal_at output_at many gate_at operand_at difference_at symbols_at
    symbol_at name_at
read_wires = (
  record { read = _; says = binary refl refl; is = refl },
  record { read = _; says = binary refl refl; is = refl },
  record { read = _; says = binary refl refl; is = refl },
)

begun : (may_begin same_file 18 ≡ true) × (may_begin other_file 18 ≡ true) × (may_begin wider_file 18 ≡ true)
    × (none_begins same_file 18 ≡ true) × (none_begins other_file 18 ≡ true) × (none_begins wider_file 18 ≡ true)
    × (none_begins wires 18 ≡ true)
unfolding may_begin
begun = (refl, refl, refl, refl, refl, refl, refl)

read_same : ReadsPair same_file (Ok (wire 2, wire 2))
read_same = in_parts 18 (wire 2) (Ok (wire 2))
    (record { part = record { parted = begun.0; reading = read_wires.0; ends = inl refl }; least = none_below same_file 18 begun.3 })
    read_wires.0 refl

read_other : ReadsPair other_file (Ok (wire 2, wire 1))
read_other = in_parts 18 (wire 2) (Ok (wire 1))
    (record { part = record { parted = begun.1; reading = read_wires.0; ends = inl refl }; least = none_below other_file 18 begun.4 })
    read_wires.1 refl

read_wider : ReadsPair wider_file (Ok (wire 2, wider))
read_wider = in_parts 18 (wire 2) (Ok wider)
    (record { part = record { parted = begun.2; reading = read_wires.0; ends = inl refl }; least = none_below wider_file 18 begun.5 })
    read_wires.2 refl

-- ---- their names

orders : (is_order 1 (1 ∷ []) ≡ true) × (is_order 2 (1 ∷ 2 ∷ []) ≡ true)
unfolding is_order has
orders = (refl, refl)

module _ (second : ℕ) where
  orders_inputs : OrdersInputs (wire 2) (wire second) (1 ∷ [])
  unfolding printed_names numbered names_in_order are_plain is_plain numbers_below digits
  orders_inputs = record { positions = (orders_by_test 1 (1 ∷ [])).0 orders.0; named = refl }

  orders_outputs : OrdersOutputs (wire 2) (wire second) (1 ∷ 2 ∷ [])
  unfolding printed_names numbered names_in_order are_plain is_plain numbers_below digits
  orders_outputs = record { positions = (orders_by_test 2 (1 ∷ 2 ∷ [])).0 orders.1; named = refl }

matches : Matches (wire 2) (wire 2) (Ok (wire 2)) × Matches (wire 2) (wire 1) (Ok (wire 1))
unfolding arranged_literal variable_of names_in_order
matches = (
  same_names (1 ∷ []) (1 ∷ 2 ∷ []) (orders_inputs 2) (orders_outputs 2) refl,
  same_names (1 ∷ []) (1 ∷ 2 ∷ []) (orders_inputs 1) (orders_outputs 1) refl,
)

-- two names are not put in the order of one
no_order : (inputs : List ℕ) → OrdersInputs (wire 2) wider inputs → ⊥
unfolding printed_names numbered names_in_order are_plain is_plain numbers_below digits
no_order [] is = let none = is.positions.count in cc
no_order (i ∷ []) is = let one = is.positions.count in cc
no_order (i ∷ j ∷ inputs) is = let named = is.named in cc

-- ---- what is seen of the circuit that is 1 where they differ

abbrev differences : (second : ℕ) → Option ℕ → Circuit
differences second care = miter (wire 2) (wire second) care

module _ (second : ℕ) (care : Option ℕ) (less : second < 4) where
  fits : IsSound (differences second care)
  unfolding miter_gates miter_outputs numbers_below
  fits = miter_is_circuit (wire 2) (wire second) care
      (record { first = sound 2 (lit< tt); second = sound second less; inputs = refl; outputs = refl }) (lit≤ tt)

  abbrev as_read : Aig
  as_read = let m = differences second care in record
      { inputs = m.inputs; gates = m.gates; outputs = m.outputs; in_names = m.in_names; out_names = m.out_names; fits = fits }

abbrev view : (second : ℕ) → Option ℕ → View
view second care = record { circuit = differences second care; in_names = codes "x1" ∷ []; care = care }

abbrev job : CircuitJob
job = usual_job Equal

abbrev caring : CircuitJob
caring = record (usual_job Equal) { care = Some (codes "f1") }

seen : (view_of job (differences 2 None) ≡ Ok (view 2 None)) × (view_of job (differences 1 None) ≡ Ok (view 1 None))
    × (view_of caring (differences 1 (Some 0)) ≡ Ok (view 1 (Some 0)))
unfolding view_of file_order printed_names numbered numbers_below are_plain is_plain digits inverted_named marked_names arranged_literal
    variable_of has names_in_order miter_gates miter_outputs moved_literal complement_of
seen = (refl, refl, refl)

abbrev least_points : View → List (Option ℕ)
least_points v = let c = v.circuit in least_ones_by c.inputs (care_points c v.care) (asked_polynomials c v.care)

texts : (with_points job (view 2 None) (least_points (view 2 None)) ≡ done (codes "f1: equal\nf2: equal\n"))
    × (with_points job (view 1 None) (least_points (view 1 None))
    ≡ paged (ends.Own Different) (codes "f1: equal\nf2: different at x1=0\n"))
    × (with_points caring (view 1 (Some 0)) (least_points (view 1 (Some 0))) ≡ done (codes "f2: equal\n"))
unfolding digits polynomial_of polynomials_of with_gates at_literal steps_of needed_steps step_of inner_gate choice_of step_complement
    circuit_list product_of polynomial_where product_list working_set distinct ones_list interpolation_list sub includes interpolate
    upper_zeros upper_ones lower_points ones_of combine family_where numbers_below low_cofactor high_cofactor join has value divides
    are_plain is_plain numbered printed_names point_text miter_gates miter_outputs moved_literal complement_of
texts = (refl, refl, refl)

-- ---- what is due

module _ (job : CircuitJob) (bytes : List ℕ) (second : ℕ) (care : Option ℕ) (less : second < 4) (due : CircuitDue) where
  due_by : IsSubject job bytes (Ok (differences second care)) → view_of job (differences second care) ≡ Ok (view second care)
      → job.mode ≡ Equal → with_points job (view second care) (least_points (view second care)) ≡ due → length bytes ≤ 64
      → IsDueFor circuit_duty job bytes due
  due_by subject sees mode is few =
      let asked : IsAsked (differences second care) care = seen_asked (as_read second care less) job (view second care) sees in
      within due refl (omega (arith, few)) (on_view (differences second care) (view second care) due subject sees
      (subst (IsDueOn job (view second care)) is
      (compared (least_points (view second care)) (rw mode refl) asked (ones_are_least (differences second care) care asked))))

subjects : IsSubject job same_file (Ok (differences 2 None)) × IsSubject job other_file (Ok (differences 1 None))
    × IsSubject caring other_file (Ok (differences 1 (Some 0)))
unfolding printed_names numbered numbers_below are_plain is_plain digits miter_gates
subjects = (
  of_two (wire 2) (wire 2) _ refl read_same (sound 2 (lit< tt)) (sound 2 (lit< tt)) (matched (wire 2) matches.0),
  of_two (wire 2) (wire 1) _ refl read_other (sound 2 (lit< tt)) (sound 1 (lit< tt)) (matched (wire 1) matches.1),
  of_two (wire 2) (wire 1) _ refl read_other (sound 2 (lit< tt)) (sound 1 (lit< tt)) (matched (wire 1) matches.1),
)

pub due_when_compared :
    IsDueFor circuit_duty job same_file (done (codes "f1: equal\nf2: equal\n"))
    × IsDueFor circuit_duty job other_file (paged (ends.Own Different) (codes "f1: equal\nf2: different at x1=0\n"))
    × IsDueFor circuit_duty caring other_file (done (codes "f2: equal\n"))
    × IsDueFor circuit_duty job wires (silent (ends.Own Alone))
    × IsDueFor circuit_duty job wider_file (silent (ends.Own OtherInputs))
due_when_compared = (
  due_by job same_file 2 None (lit< tt) _ subjects.0 seen.0 refl texts.0 (lit≤ tt),
  due_by job other_file 1 None (lit< tt) _ subjects.1 seen.1 refl texts.1 (lit≤ tt),
  due_by caring other_file 1 (Some 0) (lit< tt) _ subjects.2 seen.2 refl texts.2 (lit≤ tt),
  within _ refl (lit≤ tt) (no_circuit Alone
      (one_alone refl (whole (Ok (wire 2)) (none_below wires 18 begun.6) read_wires.0 refl))),
  within _ refl (lit≤ tt) (no_circuit OtherInputs (of_two (wire 2) wider _ refl read_wider (sound 2 (lit< tt)) wider_sound
      (unlike (other_inputs no_order refl)))),
)
