-- What is due for a circuit of one gate in each mode and with each option: the premises of the headline are met.
use Rattle.std.proofs.Common.{◌≡◌, ◌<◌, ◌*◌, ◌+◌, ℕ, zero, suc, subst, refl, List, [], ◌∷◌, codes, lit<, lit≤, arith}
use Rattle.std.proofs.Common.{Option, None, Some, false}
use lib.Count.{ones}
use Rattle.std.specs.Prelude.{Err, Ok, slice_get}
use Rattle.std.specs.Fmt.{digits}
use Rattle.std.proofs.lemmas.List.Elements.{All-cons, All-nil}
use Rattle.lattice.specs.Words.{combine, divides, family_where, has, high_cofactor, includes, interpolate, join, low_cofactor, lower_points}
use Rattle.lattice.specs.Words.{numbers_below, ones_of, product_of, sub, upper_ones, upper_zeros, value, basis_element_of, has_divisors}
use Rattle.lattice.specs.Words.{leads_of, normal_form_of, polynomial_where, reduced_basis_of, standard_of, basis_element_list, distinct}
use Rattle.lattice.specs.Words.{interpolation_list, leads_list, normal_form_list, ones_list, product_list, standard_list, working_set}
use Rattle.pla_reader.specs.Orders.{file_order, is_order, names_in_order, order_named, position_named}
use Rattle.pla_reader.specs.PlainNames.{are_plain, is_plain}
use Rattle.pla_reader.specs.PrintedNames.{numbered, printed_names}
use Rattle.anf_printer.specs.Text.{line, monomial_text, sum_text, variables_of}
use Rattle.aig_reader.specs.Circuit.{Circuit, IsCircuit}
use Rattle.aig_reader.specs.Fields.{behind, difference_at, gate_at, literal_at, many, number_at, operand_at, output_at}
use Rattle.aig_reader.specs.Reading.{IsReading, binary, binary_at, header_end_at, name_at, size_at, sizes_at, symbol_at, symbols_at}
use Rattle.aig_reader.specs.declared.circuit.Gate.{Gate}
use Rattle.aig_reader.specs.declared.refusal.Why.TheVariants.{Truncated}
use Rattle.aig_inputs.specs.Arranged.{arranged_literal, variable_of}
use Rattle.aig_inputs.specs.Names.{inverted_named, marked_names}
use Rattle.circuit_solve.specs.Laws.{IsAsked}
use Rattle.circuit_solve.specs.Reduced.{reduced}
use Rattle.circuit_solve.specs.Solved.{solved_by}
use Rattle.circuit_solve.proofs.Solutions.{solved_exists}
use Rattle.circuit_words.specs.Laws.{usual_job}
use Rattle.circuit_words.specs.declared.job.CircuitJob.{CircuitJob}
use Rattle.circuit_words.specs.declared.job.CircuitMode.TheVariants.{Anf, Basis, Count}
use Rattle.diagram_measures.specs.Measured.{degree_of}
use Rattle.gate_build.specs.Polynomials.{at_literal, polynomial_of, polynomials_of, with_gates}
use Rattle.gate_build.specs.Steps.{choice_of, circuit_list, complement_of, inner_gate, needed_steps, step_of, steps_of}
use Rattle.program.specs.Duties.{IsDueFor, done, silent, within}
use Rattle.program.specs.declared.outcome.Outcome.TheVariants as ends
use Rattle.circuit_run.specs.Due.{CircuitDue, IsDueOn, has_basis, no_circuit, no_view, on_view, solved, with_solution}
use Rattle.circuit_run.specs.Duty.{circuit_duty}
use Rattle.circuit_run.specs.Laws.{DueForExamples, one_gate}
use Rattle.circuit_run.specs.Subjects.{compares, of_one}
use Rattle.circuit_run.specs.Views.{View, view_of}
use Rattle.circuit_run.specs.declared.ends.CircuitEnd.{CircuitEnd}
use Rattle.circuit_run.specs.declared.ends.CircuitEnd.TheVariants.{Care, Invert, Order}
use Rattle.circuit_run.proofs.ComparedExamples.{due_when_compared}

-- ---- the circuit, and how it is seen

abbrev gate : (left right : ℕ) → Gate
gate left right = record { left = left; right = right }

-- one of one gate with these operands
abbrev circuit_of : (left right : ℕ) → Circuit
circuit_of left right =
    record { inputs = 2; gates = gate left right ∷ []; outputs = 6 ∷ []; in_names = [] ∷ [] ∷ []; out_names = [] ∷ [] }

fits : (left right : ℕ) → left < 6 → right < 6
    → let c = circuit_of left right in IsCircuit c.inputs c.gates c.outputs c.in_names c.out_names
fits left right less also = record {
  few_inputs = lit≤ tt;
  few_gates = lit≤ tt;
  few_outputs = lit≤ tt;
  left = operand_left;
  right = operand_right;
  literals = All-cons (λ literal. literal < 8) 6 [] (lit< tt) (All-nil (λ literal. literal < 8));
  in_count = refl;
  out_count = refl;
}
  where
    operand_left : (k : ℕ) (g : Gate) → slice_get (gate left right ∷ []) k ≡ Some g → g.left < 2 * (2 + 1 + k)
    operand_left zero g at = grind arith
    operand_left (suc k) g at = cc

    operand_right : (k : ℕ) (g : Gate) → slice_get (gate left right ∷ []) k ≡ Some g → g.right < 2 * (2 + 1 + k)
    operand_right zero g at = grind arith
    operand_right (suc k) g at = cc

abbrev view : (left right : ℕ) → (first second : List ℕ) → Option ℕ → View
view left right first second care = record { circuit = circuit_of left right; in_names = first ∷ second ∷ []; care = care }

asked : (left right : ℕ) (first second : List ℕ) (care : Option ℕ) → left < 6 → right < 6 → ((output : ℕ) → care ≡ Some output → output < 1)
    → let v = view left right first second care in IsAsked v.circuit v.care
asked left right first second care less also one = record { fits = fits left right less also; within = one }

read : IsReading one_gate (Ok (circuit_of 4 2)) × IsReading (codes "aig 3 2") (Err (record { byte = 7; why = Truncated }))
unfolding binary_at sizes_at size_at header_end_at number_at behind literal_at output_at many gate_at operand_at difference_at symbols_at
    symbol_at name_at
read = (record { read = _; says = binary refl refl; is = refl }, record { read = _; says = binary refl refl; is = refl })

-- ---- jobs

abbrev ordered : List ℕ → CircuitJob
ordered text = record (usual_job Anf) { order = Some text }

abbrev inverting : List ℕ → CircuitJob
inverting text = record (usual_job Anf) { invert = Some text }

views : ((job : CircuitJob) → job.order ≡ None → job.invert ≡ None → job.care ≡ None
    → view_of job (circuit_of 4 2) ≡ Ok (view 4 2 (codes "x1") (codes "x2") None))
    × (view_of (ordered (codes "x2,x1")) (circuit_of 4 2) ≡ Ok (view 2 4 (codes "x2") (codes "x1") None))
    × (view_of (inverting (codes "x1")) (circuit_of 4 2) ≡ Ok (view 4 3 (codes "~x1") (codes "x2") None))
    × (view_of (record (usual_job Basis) { care = Some (codes "f1") }) (circuit_of 4 2)
    ≡ Ok (view 4 2 (codes "x1") (codes "x2") (Some 0)))
    × (view_of (ordered (codes "x1")) (circuit_of 4 2) ≡ Err Order)
    × (view_of (inverting (codes "f1")) (circuit_of 4 2) ≡ Err Invert)
    × (view_of (record (usual_job Anf) { care = Some (codes "x1") }) (circuit_of 4 2) ≡ Err Care)
unfolding digits view_of file_order is_order order_named position_named names_in_order printed_names numbered numbers_below are_plain
    is_plain inverted_named marked_names arranged_literal variable_of has
views = (λ job order invert care. rw (order, invert, care) refl, refl, refl, refl, refl, refl, refl)

-- ---- what is due

abbrev plain : View
plain = view 4 2 (codes "x1") (codes "x2") None

abbrev swapped : View
swapped = view 2 4 (codes "x2") (codes "x1") None

abbrev inverted : View
inverted = view 4 3 (codes "~x1") (codes "x2") None

abbrev cared : View
cared = view 4 2 (codes "x1") (codes "x2") (Some 0)

abbrev basis_job : CircuitJob
basis_job = record (usual_job Basis) { care = Some (codes "f1") }

-- the solutions are within the limits, and their texts are these
abbrev with_its : CircuitJob → View → CircuitDue
with_its job v = with_solution job v (solved_by v.circuit v.care (has_basis job.mode))

texts : (with_its (usual_job Anf) plain ≡ done (codes "f1 = x1*x2\n"))
    × (with_its (ordered (codes "x2,x1")) swapped ≡ done (codes "f1 = x2*x1\n"))
    × (with_its (inverting (codes "x1")) inverted ≡ done (codes "f1 = ~x1*x2 + x2\n"))
    × (with_its basis_job cared ≡ done (codes "0 = x2 + 1\n0 = x1 + 1\n"))
    × (with_its (usual_job Count) plain ≡ done (codes "f1: terms 1, degree 2, nodes 2\n"))
unfolding digits ones polynomial_of polynomials_of with_gates at_literal steps_of needed_steps step_of inner_gate choice_of complement_of
    circuit_list product_of polynomial_where product_list working_set distinct ones_list interpolation_list sub includes interpolate
    upper_zeros upper_ones lower_points ones_of combine family_where numbers_below low_cofactor high_cofactor join has value divides
    are_plain is_plain numbered printed_names variables_of monomial_text sum_text line standard_list leads_list normal_form_list
    basis_element_list basis_element_of has_divisors leads_of normal_form_of standard_of reduced_basis_of reduced degree_of
texts = (refl, refl, refl, refl, refl)

due_on : (job : CircuitJob) (v : View) (text : List ℕ) → compares job.mode ≡ false → view_of job (circuit_of 4 2) ≡ Ok v
    → IsAsked v.circuit v.care → with_its job v ≡ done text → IsDueFor circuit_duty job one_gate (done text)
due_on job v text one seen asked is = within (done text) refl (lit≤ tt) (on_view (circuit_of 4 2) v (done text) (of_one _ one read.0) seen
    (subst (IsDueOn job v) is (solved _ one asked (solved_exists v.circuit v.care (has_basis job.mode) asked))))

unseen : (job : CircuitJob) (end : CircuitEnd) → compares job.mode ≡ false → view_of job (circuit_of 4 2) ≡ Err end
    → IsDueFor circuit_duty job one_gate (silent (ends.Own end))
unseen job end one is = within _ refl (lit≤ tt) (no_view (circuit_of 4 2) end (of_one _ one read.0) is)

none : {output : ℕ} → ◌≡◌ {A = Option ℕ} None (Some output) → output < 1
none is = cc

pub due_for_examples : DueForExamples
due_for_examples =
    let plainly = asked 4 2 (codes "x1") (codes "x2") None (lit< tt) (lit< tt) (λ output is. none is) in (
      due_on (usual_job Anf) plain _ refl (views.0 _ refl refl refl) plainly texts.0,
      due_on (ordered (codes "x2,x1")) swapped _ refl views.1
          (asked 2 4 (codes "x2") (codes "x1") None (lit< tt) (lit< tt) (λ output is. none is)) texts.1,
      due_on (inverting (codes "x1")) inverted _ refl views.2
          (asked 4 3 (codes "~x1") (codes "x2") None (lit< tt) (lit< tt) (λ output is. none is)) texts.2,
      due_on basis_job cared _ refl views.3
          (asked 4 2 (codes "x1") (codes "x2") (Some 0) (lit< tt) (lit< tt) (λ output is. grind arith)) texts.3,
      due_on (usual_job Count) plain _ refl (views.0 _ refl refl refl) plainly texts.4,
      unseen (ordered (codes "x1")) Order refl views.4,
      unseen (inverting (codes "f1")) Invert refl views.5,
      unseen (record (usual_job Anf) { care = Some (codes "x1") }) Care refl views.6,
      within _ refl (lit≤ tt) (no_circuit _ (of_one _ refl read.1)),
      due_when_compared.0,
      due_when_compared.1,
      due_when_compared.2,
      due_when_compared.3,
      due_when_compared.4,
    )
