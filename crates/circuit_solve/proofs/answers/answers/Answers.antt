use Rattle.std.proofs.lemmas.Result.{IfOk-weaker}
use Rattle.node_store.proofs.StoreLaws.{Grows-trans}
use Rattle.aig_reader.specs.Reading.{circuit}
use Rattle.circuit_solve.proofs.AnswerSteps.{answered_all, answered_care, care_planned, output_within, outputs_known, outputs_planned}
use Rattle.circuit_solve.proofs.answers.answers.Goals as goal

pub output_polynomials-requires-clause-planned : goal.output_polynomials-requires-clause-planned
output_polynomials-requires-clause-planned g c = outputs_planned (circuit c.args.aig.now) c.args.care _ c.requires.planned

pub returns-in-None-clause-found : goal.returns-in-None-clause-found
returns-in-None-clause-found g c =
    answered_all (g.S.Store.state c.output_polynomials.new.store) (circuit c.args.aig.now) c.in_ok-polynomials.polynomials
    c.in_ok-polynomials.ensures.polynomials c.in_ok-polynomials.ensures.held c.in-None.is

pub answers_with_care-requires-clause-output : goal.answers_with_care-requires-clause-output
answers_with_care-requires-clause-output g c =
    output_within (g.S.Store.state c.output_polynomials.new.store) (circuit c.args.aig.now) c.in_ok-polynomials.polynomials
    c.in_ok-polynomials.ensures.polynomials _ (c.requires.care _ c.in-Some.is)

pub answers_with_care-requires-clause-known : goal.answers_with_care-requires-clause-known
answers_with_care-requires-clause-known g c =
    outputs_known (g.S.Store.state c.output_polynomials.new.store) (circuit c.args.aig.now) c.in_ok-polynomials.polynomials
    c.in_ok-polynomials.ensures.polynomials

pub answers_with_care-requires-clause-planned : goal.answers_with_care-requires-clause-planned
answers_with_care-requires-clause-planned g c =
    care_planned (g.S.Store.state c.output_polynomials.new.store) (circuit c.args.aig.now) c.in_ok-polynomials.polynomials
    c.in_ok-polynomials.ensures.polynomials _ c.in-Some.is
    (rw c.in_ok-polynomials.ensures.grows.vars c.requires.vars) c.in_ok-polynomials.ensures.grows.plan c.requires.planned

pub returns-in-Some-clause-grows : goal.returns-in-Some-clause-grows
returns-in-Some-clause-grows g c = Grows-trans _ _ _ c.in_ok-polynomials.ensures.grows c.answers_with_care.ensures.grows

pub returns-in-Some-clause-found : goal.returns-in-Some-clause-found
returns-in-Some-clause-found g c =
    IfOk-weaker c.answers_with_care.result _ _ (λ found. answered_care (g.S.Store.state c.output_polynomials.new.store)
    (circuit c.args.aig.now) c.in_ok-polynomials.polynomials c.in_ok-polynomials.ensures.polynomials
    c.in_ok-polynomials.ensures.held c.in-Some.is
    (rw c.in_ok-polynomials.ensures.grows.vars c.requires.vars) c.answers_with_care.ensures.grows) c.answers_with_care.ensures.found
