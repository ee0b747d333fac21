use Rattle.std.proofs.Common.{Err, ap}
use Rattle.aig_reader.specs.Reading.{circuit}
use Rattle.circuit_solve.proofs.Listing.{all_listed, answers_unlisted, elements_known, elements_unlisted}
use Rattle.circuit_solve.proofs.solving.solution_in.Goals as goal

pub second_phase-requires-clause-planned : goal.second_phase-requires-clause-planned
second_phase-requires-clause-planned g c = rw c.requires.plan (λ f i. i)

pub lists_of-requires : goal.lists_of-requires
lists_of-requires g c = rw c.deref.ensures.value c.in_ok-found.ensures.found.known

pub returns-in_err-polynomials : goal.returns-in_err-polynomials
returns-in_err-polynomials g c =
    answers_unlisted (circuit c.args.aig.now) c.args.care c.args.limit c.in_ok-found.ensures.grows
    (g.met.S.Store.sound c.second_phase.new.store) c.in_ok-found.found c.in_ok-found.ensures.found _ c.deref.ensures.value
    c.in_err-polynomials.field-0.0 _ c.from_residual-in_err-polynomials.ensures.1 (λ e. c.in_err-polynomials.ensures.over (ap Err e))

pub lists_of-requires-2 : goal.lists_of-requires-2
lists_of-requires-2 g c =
    elements_known (circuit c.args.aig.now) c.args.care c.args.limit c.in_ok-found.ensures.grows
    (g.met.S.Store.sound c.second_phase.new.store) c.in_ok-found.found c.in_ok-found.ensures.found _ c.deref.ensures.value
    c.in_ok-polynomials.ensures.reads _ c.deref-2.ensures.value _ c.in_ok-polynomials.ensures.left

pub returns-in_err-basis : goal.returns-in_err-basis
returns-in_err-basis g c =
    elements_unlisted (circuit c.args.aig.now) c.args.care c.args.limit c.in_ok-found.ensures.grows
    (g.met.S.Store.sound c.second_phase.new.store) c.in_ok-found.found c.in_ok-found.ensures.found _ c.deref.ensures.value
    c.in_ok-polynomials.ensures.reads _ c.deref-2.ensures.value _ c.in_ok-polynomials.ensures.left
    c.in_err-basis.field-0.0 _ c.from_residual-in_err-basis.ensures.1 (λ e. c.in_err-basis.ensures.over (ap Err e))

pub returns : goal.returns
returns g c =
    all_listed (circuit c.args.aig.now) c.args.care c.args.limit c.in_ok-found.ensures.grows
    (g.met.S.Store.sound c.second_phase.new.store) c.in_ok-found.found c.in_ok-found.ensures.found _ c.deref.ensures.value
    c.in_ok-polynomials.ensures.reads _ c.deref-2.ensures.value _ c.in_ok-polynomials.ensures.left
    _ c.in_ok-basis.ensures.left c.in_ok-polynomials.ensures.lists c.in_ok-basis.ensures.lists
