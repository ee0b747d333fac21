-- What is due for worked files of two inputs in each mode: the premises of the headline are met.
use Rattle.std.proofs.Common.{◌≡◌, subst, sym, refl, ℕ, ◌≤◌, ◌^◌, List, [], ◌∷◌, ◌++◌, codes, length, drop, map, lit≤, arith, Err, None, Ok}
use Rattle.std.proofs.Common.{◌⊎◌, ⊎_elim}
use Rattle.lattice.specs.Words.{AreDisjoint, combine, divides, family_where, has, includes, numbers_below, ones_of, value, high_cofactor}
use Rattle.lattice.specs.Words.{join, low_cofactor, sub, interpolate, lower_points, upper_ones, upper_zeros, basis_element_of, has_divisors}
use Rattle.lattice.specs.Words.{leads_of, normal_form_of, reduced_basis_of, standard_of, IsConsistent, cover, cube, in_cube, off_set}
use Rattle.lattice.specs.Words.{on_set, points_where, rows_with, basis_element_list, care_list, cover_list, distinct, interpolation_list}
use Rattle.lattice.specs.Words.{leads_list, normal_form_list, ones_list, standard_list, working_set}
use Rattle.lattice.specs.declared.kind.Kind.TheVariants.{Fr}
use Rattle.lattice.specs.declared.row.Row.{Row}
use Rattle.lattice.proofs.Polynomials.{disjoint_from_test}
use Rattle.pla_reader.specs.Grammar.{arguments_of, command_fault, fault_of, kind_fault, kind_named, names_fault, row_fault, size_fault}
use Rattle.pla_reader.specs.Grammar.{symbols}
use Rattle.pla_reader.specs.Lines.{content, words_of}
use Rattle.pla_reader.specs.PlainNames.{are_plain, is_plain}
use Rattle.pla_reader.specs.PrintedNames.{numbered, printed_names}
use Rattle.pla_reader.specs.Reading.{Description, bytes_taken, description_of, first_fault, input_mask, output_mask, reading_of, row_of}
use Rattle.pla_reader.specs.Reading.{rows_of, up_to_end}
use Rattle.anf_printer.specs.Text.{line, monomial_text, sum_text, variables_of}
use Rattle.cert_check.specs.Reading.{are_known, are_ordered, ascends_from, bare, factors_of, factors_product, is_line, is_sum, is_term}
use Rattle.cert_check.specs.Reading.{monomial_of, monomials_of, terms_in}
use Rattle.program.specs.Duties.{IsDueFor, done, silent, within}
use Rattle.program.specs.Examples.{two_points}
use Rattle.pla_reader.specs.declared.reading.TheConstants.{MOST_BYTES}
use Rattle.program.specs.declared.outcome.Outcome.TheVariants as ends
use Rattle.nf_run.specs.Answers.{answer_terms, answer_to, query_nodes}
use Rattle.nf_run.specs.Due.{IsDue, IsDueJoining, IsDueReducing, QueryDue, answers_text, basis_text, joining, no_queries, other_outputs}
use Rattle.nf_run.specs.Due.{reducing}
use Rattle.nf_run.specs.Duty.{query_duty}
use Rattle.nf_run.specs.Joint.{first_refused, joint_basis_of}
use Rattle.nf_run.specs.Laws.{DueForExamples, two_outputs}
use Rattle.nf_run.specs.Queries.{queries_on, query_fault, query_of, query_reading}
use Rattle.nf_run.specs.Reduced.{reduced, terms_from}
use Rattle.nf_run.specs.declared.answer.TheConstants.{MOST_TERMS}
use Rattle.nf_run.specs.declared.ends.QueryEnd.TheVariants.{TwoOutputs}
use Rattle.nf_run.specs.declared.joint.Joining.{Joining}
use Rattle.nf_run.specs.declared.joint.Joining.TheVariants.{Meet, Union}
use Rattle.nf_run.specs.declared.mode.QueryMode.{QueryMode}
use Rattle.nf_run.specs.declared.mode.QueryMode.TheVariants.{Join, Reduce}
use Rattle.nf_run.specs.declared.queries.Query.{Query}
use Rattle.nf_run.specs.declared.queries.QueryWhy.TheVariants.{TermOrder}
use Rattle.nf_run.proofs.Endings.{answers_due, basis_due}
use Rattle.nf_run.proofs.JointBases.{joint_exists}

-- ---- two points of one output, and three points, of which each of two outputs has two

abbrev row : (line value on off : ℕ) → Row
row line value on off = record { line = line; care = 3; value = value; on = on; off = off; dc = 0 }

abbrev file : (outputs : ℕ) → List Row → List (List ℕ) → Description
file outputs rows names = record {
  inputs = 2;
  outputs = outputs;
  kind = Fr;
  rows = rows;
  in_names = codes "a" ∷ codes "b" ∷ [];
  out_names = names;
}

abbrev d : Description
d = file 1 (row 6 3 1 0 ∷ row 7 0 0 1 ∷ []) (codes "f" ∷ [])

abbrev e : Description
e = file 2 (row 6 3 1 0 ∷ row 7 0 0 3 ∷ row 8 2 2 0 ∷ []) (codes "f" ∷ codes "g" ∷ [])

-- whatever stands behind the description
reads : (text : List ℕ) → (reading_of (two_points ++ text) ≡ Ok d) × (drop (bytes_taken (two_points ++ text)) (two_points ++ text) ≡ text)
    × (reading_of two_outputs ≡ Ok e)
unfolding reading_of first_fault fault_of description_of up_to_end content words_of kind_named command_fault bytes_taken
    arguments_of symbols size_fault kind_fault names_fault row_fault rows_of row_of input_mask output_mask
reads text = (refl, refl, refl)

apart : AreDisjoint (on_set 2 d.rows 1) (off_set 2 d.rows 1)
    × AreDisjoint (on_set 2 e.rows 1) (off_set 2 e.rows 1) × AreDisjoint (on_set 2 e.rows 2) (off_set 2 e.rows 2)
unfolding cover rows_with in_cube family_where numbers_below divides
apart = (disjoint_from_test (3 ∷ []) (0 ∷ []) refl, disjoint_from_test (3 ∷ []) (0 ∷ []) refl, disjoint_from_test (2 ∷ []) (0 ∷ []) refl)

consistent : IsConsistent d.inputs d.outputs d.rows
consistent output first last = let one : output ≡ 1 = omega (arith, first, last) in rw one apart.0

both_consistent : IsConsistent e.inputs e.outputs e.rows
both_consistent output first last =
    let which : (output ≡ 1) ⊎ (output ≡ 2) = grind (arith, first, last) in
    ⊎_elim (λ one. rw one apart.1) (λ two. rw two apart.2) which

-- what is due for few bytes
due_within : (mode : QueryMode) (bytes : List ℕ) {due : QueryDue} → length bytes ≤ MOST_BYTES → IsDue mode 19 bytes due
    → IsDueFor (query_duty 19) mode bytes due
due_within mode bytes {due = due} few is = within due refl few is

reducing_due : (text : List ℕ) {due : QueryDue} → length (two_points ++ text) ≤ MOST_BYTES → IsDueReducing 19 d text due
    → IsDueFor (query_duty 19) Reduce (two_points ++ text) due
reducing_due text {due = due} few is = due_within Reduce (two_points ++ text) few (reducing d due (reads text).0 refl
    (subst (λ t. IsDueReducing 19 d t due) (sym (reads text).1) is))

joining_due : (how : Joining) (text : List ℕ) → first_refused 19 MOST_TERMS e how (joint_basis_of e how) ≡ None
    → basis_text e (joint_basis_of e how) ≡ text → IsDueFor (query_duty 19) (Join how) two_outputs (done text)
joining_due how text fits is = due_within (Join how) two_outputs (lit≤ tt) (joining e how (done text) (reads []).2 refl
    (subst (λ t. IsDueJoining 19 e how (done t)) is (basis_due refl both_consistent (joint_basis_of e how) (joint_exists e how) fits)))

-- ---- two queries, one that is refused, and what is found

abbrev asks : List ℕ
asks = codes "f = a\nf = a*b + 1\n"

abbrev asks_badly : List ℕ
asks_badly = codes "f = b + a\n"

abbrev queries : List Query
queries = record { output = 1; terms = 2 ∷ [] } ∷ record { output = 1; terms = 3 ∷ 0 ∷ [] } ∷ []

asked : (query_reading d asks ≡ Ok queries) × (query_reading d asks_badly ≡ Err (1, TermOrder))
unfolding queries_on query_fault query_of is_plain are_plain includes numbered printed_names bare is_term is_sum is_line terms_in factors_of
    factors_product monomial_of monomials_of are_known ascends_from are_ordered divides
asked = (refl, refl)

-- the answers and the bases are within the limits, and their texts are these
fit : ((query_nodes d queries ≤ 2 ^ 19) × (answer_terms d queries ≤ MOST_TERMS)
    × (answers_text d queries (map (answer_to d) queries) ≡ codes "f = b\nf = b + 1\n"))
    × ((first_refused 19 MOST_TERMS e Union (joint_basis_of e Union) ≡ None)
    × (basis_text e (joint_basis_of e Union) ≡ codes "0 = a*b + b\n"))
    × (first_refused 19 MOST_TERMS e Meet (joint_basis_of e Meet) ≡ None)
    × (basis_text e (joint_basis_of e Meet) ≡ codes "0 = b\n0 = a\n")
unfolding reduced terms_from working_set distinct ones_list interpolation_list cover_list care_list sub includes interpolate upper_zeros
    upper_ones lower_points ones_of combine family_where numbers_below low_cofactor high_cofactor join has value divides cube cover
    rows_with points_where in_cube are_plain is_plain numbered printed_names variables_of monomial_text sum_text line standard_list
    leads_list normal_form_list basis_element_list basis_element_of has_divisors leads_of normal_form_of standard_of reduced_basis_of
fit = ((lit≤ tt, lit≤ tt, refl), (refl, refl), refl, refl)

-- what is due for them
pub due_for_examples : DueForExamples
due_for_examples = (
  reducing_due asks (lit≤ tt)
      (subst (λ t. IsDueReducing 19 d asks (done t)) fit.0.2 (answers_due asked.0 consistent fit.0.0 fit.0.1)),
  reducing_due asks_badly (lit≤ tt) (no_queries 1 TermOrder asked.1),
  due_within (Join Meet) two_points (lit≤ tt)
      (joining d Meet (silent (ends.Own TwoOutputs)) (reads []).0 refl (other_outputs (λ e. omega (arith, e)))),
  joining_due Union _ fit.1.0 fit.1.1,
  joining_due Meet _ fit.2 fit.3,
)
