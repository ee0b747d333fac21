use Rattle.std.proofs.Common.{◌≡◌, ◌∙◌, Err, ap, arith, map, sym, ⊎_elim}
use Rattle.std.proofs.Math.Pow.{pow_mono}
use Rattle.std.proofs.lemmas.Bool.{cases_Bool}
use Rattle.lattice.specs.Words.{is_basis, second_phase}
use Rattle.computed_cache.specs.Cached.{cached_sound, cached_state}
use Rattle.pla_reader.specs.Reading.{description}
use Rattle.anf_printer.specs.Text.{shown_answer}
use Rattle.node_store.proofs.StoreLaws.{fits}
use Rattle.set_algebra.proofs.Calls.{walk_was_over}
use Rattle.interp_run.specs.Parts.{jobs_for}
use Rattle.interp_run.specs.Phases.{answers_for}
use Rattle.interp_run.proofs.PhaseLists.{first_later}
use Rattle.interp_run.proofs.SolvedAnswers.{answers_are, answers_counted, first_planned, jobs_counted, last_terms_over, second_few}
use Rattle.interp_run.proofs.SolvedAnswers.{second_none, within_limits}
use Rattle.interp_run.proofs.solve.try_solution.Goals as goal

pub find_first-requires-clause-slots : goal.find_first-requires-clause-slots
find_first-requires-clause-slots g c κs within = rw (c.new-pass.ensures.state, c.pass.ensures.state, c.in_ok-table.ensures.state)
    (pow_mono c.requires.bits.1)

pub find_first-requires-clause-vars : goal.find_first-requires-clause-vars
find_first-requires-clause-vars g c κs within = rw (c.new-pass.ensures.state, c.pass.ensures.state, c.in_ok-table.ensures.state)

pub find_first-requires-clause-planned : goal.find_first-requires-clause-planned
find_first-requires-clause-planned g c κs within = rw (c.new-pass.ensures.state, c.pass.ensures.state, c.in_ok-table.ensures.state)
    (first_planned (description c.args.pla.now) c.args.job.now.mode _ c.run_plan.ensures)

pub count_first_points-points-requires : goal.count_first_points-points-requires
count_first_points-points-requires g c = rw c.deref.ensures.value c.in_ok-first.ensures.first.cares

pub run_second_phase-requires-clause-few : goal.run_second_phase-requires-clause-few
run_second_phase-requires-clause-few g c κs within =
    let d = description c.args.pla.now in let mode = c.args.job.now.mode in
    ⊎_elim (λ basis. omega (arith, second_few d mode, (c.in_ok-first.ensures.fits basis).terms, c.requires.within.terms))
    (λ bare. omega (arith, second_none d mode bare)) (cases_Bool (is_basis mode))

pub run_second_phase-requires-clause-vars : goal.run_second_phase-requires-clause-vars
run_second_phase-requires-clause-vars g c κs within =
    let points = c.count_first_points-points.ensures.reads in
    rw (points.grows.vars, c.in_ok-first.ensures.grows.vars, c.new-pass.ensures.state, c.pass.ensures.state, c.in_ok-table.ensures.state)

pub run_second_phase-requires-clause-first : goal.run_second_phase-requires-clause-first
run_second_phase-requires-clause-first g c κs within = first_later (description c.args.pla.now) c.args.job.now.mode _ _ c.in_ok-first.first
    c.count_first_points-points.ensures.reads.grows c.in_ok-first.ensures.first

pub run_second_phase-requires-clause-planned : goal.run_second_phase-requires-clause-planned
run_second_phase-requires-clause-planned g c κs within = rw (
  c.count_first_points-points.ensures.reads.grows.plan,
  c.in_ok-first.ensures.grows.plan,
  c.new-pass.ensures.state,
  c.pass.ensures.state,
  c.in_ok-table.ensures.state,
  c.run_plan.ensures,
) (λ f h. h)

pub list_shown-requires-clause-polynomials : goal.list_shown-requires-clause-polynomials
list_shown-requires-clause-polynomials g c = rw c.deref-2.ensures.value c.in_ok-elements.ensures.enough.0

pub list_shown-requires-clause-elements : goal.list_shown-requires-clause-elements
list_shown-requires-clause-elements g c = rw c.deref-3.ensures.value c.in_ok-elements.ensures.enough.1

pub list_shown-requires-clause-known : goal.list_shown-requires-clause-known
list_shown-requires-clause-known g c = rw (c.deref-2.ensures.value, c.deref-3.ensures.value) c.in_ok-elements.ensures.solved.known

pub returns-in_err-shown-clause-terms : goal.returns-in_err-shown-clause-terms
returns-in_err-shown-clause-terms g c is =
    let d = description c.args.pla.now in let job = c.args.job.now in
    let u = cached_state c.run_second_phase.new.store in let are = c.in_ok-elements.ensures.solved in
    let sound = cached_sound c.run_second_phase.new.store in
    let room = fits u d.inputs (second_phase d.inputs d.outputs d.kind d.rows job.mode) sound are.held in
    let size = rw (c.new-pass.ensures.state, c.pass.ensures.state, c.in_ok-table.ensures.state) at c.in_ok-first.ensures.grows.capacity in
    last_terms_over job d c.requires.consistent c.in_ok-first.ensures.fits (omega (arith, room, size, pow_mono c.requires.bits.1))
    (rw (c.deref-2.ensures.value, c.deref-3.ensures.value, answers_counted d job.mode u _ are) at (c.in_err-shown.ensures.terms
    (ap Err (walk_was_over c.from_residual-in_err-shown.result c.in_err-shown.field-0.0 c.from_residual-in_err-shown.ensures.1 is))))

pub returns-clause-jobs : goal.returns-clause-jobs
returns-clause-jobs g c =
    let d = description c.args.pla.now in let mode = c.args.job.now.mode in
    let shown = rw (c.deref-2.ensures.value, c.deref-3.ensures.value) at c.in_ok-shown.ensures.shown in
    let answers : answers_for d mode ≡ map shown_answer c.in_ok-shown.shown.items =
    sym (shown ∙ c.in_ok-elements.ensures.solved.answers) in
    omega (arith, c.in_ok-first.ensures.jobs, c.in_ok-elements.ensures.jobs, jobs_counted d mode, ap (jobs_for mode) answers)

pub returns-clause-ok : goal.returns-clause-ok
returns-clause-ok g c =
    let d = description c.args.pla.now in let job = c.args.job.now in
    let u = cached_state c.run_second_phase.new.store in let are = c.in_ok-elements.ensures.solved in
    let sound = cached_sound c.run_second_phase.new.store in
    let room = fits u d.inputs (second_phase d.inputs d.outputs d.kind d.rows job.mode) sound are.held in
    let size = rw (c.new-pass.ensures.state, c.pass.ensures.state, c.in_ok-table.ensures.state) at c.in_ok-first.ensures.grows.capacity in
    let all = rw (c.deref-2.ensures.value, c.deref-3.ensures.value, answers_counted d job.mode u _ are)
    at c.in_ok-shown.ensures.within in
    rw (c.in_ok-shown.ensures.shown, c.deref-2.ensures.value, c.deref-3.ensures.value, are.answers) (
      answers_are d job.mode c.requires.consistent,
      within_limits job d c.requires.consistent c.in_ok-first.ensures.fits (omega (arith, room, size, pow_mono c.requires.bits.1)) all,
    )
