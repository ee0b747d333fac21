-- What is due for a worked file of two points over two inputs, in modes anf, basis and check, and by another order of the inputs, that
-- something is due in mode gen, and words that ask for jobs: the premises of the headline are met.
use Rattle.std.proofs.Common.{◌≡◌, subst, sym, refl, ℕ, ◌≤◌, ◌^◌, ◌⊎◌, List, [], ◌∷◌, ◌++◌, codes, Ok, drop, inl, inr, lit≤, arith, Err}
use Rattle.std.proofs.Common.{None, Option, Some, ap, false, length, not}
use Rattle.lattice.specs.Words.{AreDisjoint, includes, combine, family_where, numbers_below, has, divides, value, ones_of, low_cofactor}
use Rattle.lattice.specs.Words.{high_cofactor, join, sub, interpolate, upper_zeros, upper_ones, lower_points, basis_element_of}
use Rattle.lattice.specs.Words.{has_divisors, leads_of, normal_form_of, standard_of, IsConsistent, cube, cover, on_set, off_set, rows_with}
use Rattle.lattice.specs.Words.{points_where, in_cube, working_set, distinct, ones_list, interpolation_list, standard_list, leads_list}
use Rattle.lattice.specs.Words.{normal_form_list, basis_element_list, cover_list, care_list, output_list, output_basis_list, first_phase}
use Rattle.lattice.specs.Words.{second_phase}
use Rattle.lattice.specs.declared.kind.Kind.TheVariants.{Fr}
use Rattle.lattice.specs.declared.kind.Mode.{Mode}
use Rattle.lattice.specs.declared.kind.Mode.TheVariants.{Anf, Basis, Check, Gen}
use Rattle.lattice.proofs.Polynomials.{disjoint_from_test}
use Rattle.pla_reader.specs.PlainNames.{are_plain, is_plain}
use Rattle.pla_reader.specs.Lines.{content, words_of}
use Rattle.pla_reader.specs.Grammar.{kind_named, command_fault, arguments_of, symbols, size_fault, kind_fault, names_fault, row_fault}
use Rattle.pla_reader.specs.Grammar.{fault_of}
use Rattle.pla_reader.specs.Orders.{arranged_mask, is_order, names_in_order, order_named, position_named}
use Rattle.pla_reader.specs.Reading.{Description, input_mask, output_mask, row_of, rows_of, up_to_end, first_fault}
use Rattle.pla_reader.specs.Reading.{description_of, reading_of, bytes_taken}
use Rattle.pla_reader.specs.PrintedNames.{numbered, printed_names}
use Rattle.anf_printer.specs.Text.{variables_of, monomial_text, sum_text, line, output_text, texts_of}
use Rattle.cert_check.specs.Faults.{first_verdict, misses, is_one_in, greatest_of, is_comparable, is_below_last, is_divided, miscounts}
use Rattle.cert_check.specs.Faults.{basis_checks, reduced_checks, output_checks, checks_from, verdict_on}
use Rattle.cert_check.specs.Reading.{bare, is_term, is_sum, is_line, terms_in, factors_of, factors_product, monomial_of, monomials_of}
use Rattle.cert_check.specs.Reading.{are_known, ascends_from, are_ordered, left_fault, right_fault, line_fault, with_element, with_line}
use Rattle.cert_check.specs.Reading.{read_on}
use Rattle.cert_check.specs.declared.answer.GivenOutput.{GivenOutput}
use Rattle.cert_check.specs.declared.refusal.Verdict.{Verdict}
use Rattle.cert_check.specs.declared.refusal.Verdict.TheVariants.{Yes}
use Rattle.clap.proofs.OnLiterals.{clap_on_literals}
use Rattle.clap.specs.declared.error.kind.ErrorKind.TheVariants as kind
use Rattle.cli_words.specs.CommandLine.{mode_name}
use Rattle.cli_words.specs.declared.job.Job.{Job}
use Rattle.gen_pla.specs.Generated.{generated, generated_rows}
use Rattle.interp_run.specs.Answers.{first_count, second_count, last_nodes, texts, notes_from}
use Rattle.program.specs.Duties.{IsDueFor, unread, within}
use Rattle.program.specs.Examples.{two_points}
use Rattle.pla_reader.specs.declared.reading.TheConstants.{MOST_BYTES}
use Rattle.program.specs.declared.outcome.Outcome.TheVariants as ends
use Rattle.interp_run.specs.Due.{InterpDue, IsDue, IsDueChecking, checking, given_of, has_answers, in_order, is_gen, judged, no_file}
use Rattle.interp_run.specs.Due.{solving, verdict}
use Rattle.interp_run.specs.Duty.{IsAsked, interp_duty}
use Rattle.interp_run.specs.Laws.{DueForTwoPoints, WordsAskForJobs, ordered_job, usual_job}
use Rattle.interp_run.specs.declared.ends.OwnEnd.TheVariants.{Order}
use Rattle.interp_run.proofs.Due.{file_read, solves_without_gen}
use Rattle.interp_run.specs.Phases.{answers_for}
use Rattle.interp_run.proofs.SolvedAnswers.{answers_are, first_within_last, within_limits}

-- the description of the file, and the one over its inputs in another order
d : Description
d = record {
  inputs = 2;
  outputs = 1;
  kind = Fr;
  rows = record { line = 6; care = 3; value = 3; on = 1; off = 0; dc = 0 }
      ∷ record { line = 7; care = 3; value = 0; on = 0; off = 1; dc = 0 } ∷ [];
  in_names = codes "a" ∷ codes "b" ∷ [];
  out_names = codes "f" ∷ [];
}

abbrev turned : Description
turned = record d { in_names = codes "b" ∷ codes "a" ∷ [] }

abbrev text : List ℕ
text = codes "f = b\n0 = a + b\n"

answer : List GivenOutput
answer = record { poly = record { terms = 1 ∷ []; line = 1 }; basis = record { terms = 2 ∷ 1 ∷ []; line = 2 } ∷ [] } ∷ []

abbrev Fits : Description → Mode → (pages : List (List ℕ)) → (elements : ℕ) → Type 0
Fits e mode pages elements = (first_count (answers_for e mode) ≤ 1000000) × (last_nodes e mode ≤ 2 ^ 19)
    × (second_count (answers_for e mode) ≤ 1000000) × (texts e mode (answers_for e mode) ≡ pages)
    × (notes_from 1 (answers_for e mode) ≡ record { output = 1; terms = 1; basis = elements } ∷ [])

-- what is computed
computed : ((reading_of two_points ≡ Ok d) × (in_order (Some (codes "b,a")) (Ok d) ≡ Ok turned)
    × (in_order (Some (codes "b")) (Ok d) ≡ Err (ends.Own Order)) × (reading_of (two_points ++ text) ≡ Ok d) × (given_of d text ≡ Ok answer)
    × (drop (bytes_taken (two_points ++ text)) (two_points ++ text) ≡ text) × (verdict_on d answer ≡ Yes))
    × Fits d Anf (codes "f = b\n" ∷ []) 0 × Fits d Basis (text ∷ []) 1 × Fits turned Anf (codes "f = a\n" ∷ []) 0
unfolding d answer reading_of first_fault fault_of description_of up_to_end content words_of kind_named command_fault arguments_of symbols
    size_fault kind_fault names_fault row_fault rows_of row_of input_mask output_mask bytes_taken working_set distinct ones_list
    interpolation_list cover_list care_list output_list first_phase second_phase sub includes interpolate upper_zeros upper_ones
    lower_points ones_of combine family_where numbers_below low_cofactor high_cofactor join has value divides cube cover rows_with
    points_where in_cube are_plain is_plain numbered printed_names variables_of monomial_text sum_text line output_text texts_of notes_from
    standard_list leads_list normal_form_list basis_element_list output_basis_list basis_element_of has_divisors leads_of normal_form_of
    standard_of is_order order_named position_named names_in_order arranged_mask bare is_term is_sum is_line terms_in factors_of
    factors_product monomial_of monomials_of are_known ascends_from are_ordered left_fault right_fault line_fault with_element with_line
    read_on first_verdict misses is_one_in greatest_of is_comparable is_below_last is_divided miscounts basis_checks reduced_checks
    output_checks checks_from
computed = (
  (refl, refl, refl, refl, refl, refl, refl),
  (lit≤ tt, lit≤ tt, lit≤ tt, refl, refl),
  (lit≤ tt, lit≤ tt, lit≤ tt, refl, refl),
  (lit≤ tt, lit≤ tt, lit≤ tt, refl, refl),
)

consistent : IsConsistent d.inputs d.outputs d.rows
unfolding d cover rows_with in_cube family_where numbers_below divides
consistent output first last = let e : 1 ≡ output = omega (arith, first, last) in
    subst (λ (k : ℕ). AreDisjoint (on_set 2 d.rows k) (off_set 2 d.rows k)) e (disjoint_from_test (3 ∷ []) (0 ∷ []) refl)

-- what is due for few bytes, in a mode that reads
due_within : (job : Job) (bytes : List ℕ) {due : InterpDue} → is_gen job.mode ≡ false → length bytes ≤ MOST_BYTES → IsDue job bytes due
    → IsDueFor interp_duty job bytes due
due_within job bytes {due = due} reads few is = within due (ap not reads) few is

-- in modes anf and basis, by an order or without one
due_of : (mode : Mode) (order : Option (List ℕ)) (e : Description) (pages : List (List ℕ)) (elements : ℕ)
    → (mode ≡ Anf) ⊎ (mode ≡ Basis) → in_order order (Ok d) ≡ Ok e → IsConsistent e.inputs e.outputs e.rows → Fits e mode pages elements
    → IsDueFor interp_duty (record (usual_job mode) { order = order }) two_points
    (record { outcome = ends.Done; pages = pages; notes = record { output = 1; terms = 1; basis = elements } ∷ [] })
due_of mode order e pages elements solves ordered ok fits =
    let job : Job = record (usual_job mode) { order = order } in let modes = solves_without_gen mode solves in
    let first = first_within_last e mode in
    due_within job two_points modes.1 (lit≤ tt) (solving e _ (file_read job modes.1 two_points (Ok d) computed.0.0 ordered) modes.0
    (rw (modes.1, fits.3, fits.4)
    at (within_limits job e ok (λ basis. record { nodes = omega (arith, first, fits.1); terms = fits.0 }) fits.1 fits.2)))

-- in mode gen, whose rows do not contradict each other
due_in_gen : IsConsistent 16 2 (generated_rows 0 256) → (bytes : List ℕ)
    → (due : InterpDue) × IsDueFor interp_duty (usual_job Gen) bytes due
due_in_gen ok bytes = (_, unread _ refl (solving (generated 0) _ refl tt (has_answers _ (answers_are (generated 0) Gen ok))))

pub due_for_all : IsConsistent 16 2 (generated_rows 0 256) → DueForTwoPoints
due_for_all ok = (
  due_of Anf None d _ _ (inl refl) refl consistent computed.1,
  due_of Basis None d _ _ (inr refl) refl consistent computed.2,
  due_within (usual_job Check) (two_points ++ text) refl (lit≤ tt)
      (checking d (judged Yes) (file_read (usual_job Check) refl (two_points ++ text) (Ok d) computed.0.3 refl) refl
      (subst (λ (t : List ℕ). IsDueChecking d t (judged Yes)) (sym computed.0.5)
      (subst (λ (v : Verdict). IsDueChecking d text (judged v)) computed.0.6 (verdict answer computed.0.4 consistent)))),
  due_of Anf (Some (codes "b,a")) turned _ _ (inl refl) computed.0.1 consistent computed.3,
  due_within (ordered_job Anf (codes "b")) two_points refl (lit≤ tt)
      (no_file (ends.Own Order) (file_read (ordered_job Anf (codes "b")) refl two_points (Ok d) computed.0.0 computed.0.2)),
  due_in_gen ok,
)

-- ==== words that ask for jobs

usual_asked : (mode : Mode) → IsAsked (codes "interp" ∷ mode_name mode ∷ []) (usual_job mode)
unfolding clap_on_literals
usual_asked Anf = (refl, record { mode = refl; workers = refl; nodes = refl; terms = refl; seed = refl; order = refl })
usual_asked Basis = (refl, record { mode = refl; workers = refl; nodes = refl; terms = refl; seed = refl; order = refl })
usual_asked Check = (refl, record { mode = refl; workers = refl; nodes = refl; terms = refl; seed = refl; order = refl })
usual_asked Gen = (refl, record { mode = refl; workers = refl; nodes = refl; terms = refl; seed = refl; order = refl })

pub jobs_asked : WordsAskForJobs
unfolding clap_on_literals
jobs_asked = (
  usual_asked,
  (refl, record { mode = refl; workers = refl; nodes = refl; terms = refl; seed = refl; order = refl }),
  λ none. let none : kind.MissingRequiredArgument ∷ [] ≡ [] = none in cc,
)
