use Rattle.node_store.proofs.StoreLaws.{Grows-trans}
use Rattle.circuit_solve.proofs.AnswerSteps.{all_reduced, given_later, none_reduced, one_reduced, points_later, value_planned}
use Rattle.circuit_solve.proofs.answers.all_reduced_at.Goals as goal

pub loop-polynomial-init : goal.loop-polynomial-init
loop-polynomial-init g c =
    rw c.new-found.ensures.items (none_reduced (g.S.Store.state c.args.store.now) c.args.points c.args.given.now)

pub reduced_at-requires-clause-points : goal.reduced_at-requires-clause-points
reduced_at-requires-clause-points g c =
    points_later (g.S.Store.state c.args.store.now) c.args.points c.args.given.now c.requires.points c.requires.given c.requires.planned
    c.loop-polynomial.polynomial-index c.loop-polynomial.invariant c.loop-polynomial-test.true

pub reduced_at-requires-clause-given : goal.reduced_at-requires-clause-given
reduced_at-requires-clause-given g c =
    given_later (g.S.Store.state c.args.store.now) c.args.points c.args.given.now c.requires.points c.requires.given c.requires.planned
    c.loop-polynomial.polynomial-index c.loop-polynomial.invariant c.loop-polynomial-test.true

pub reduced_at-requires-clause-planned : goal.reduced_at-requires-clause-planned
reduced_at-requires-clause-planned g c =
    value_planned (g.S.Store.state c.args.store.now) c.args.points c.args.given.now c.requires.points c.requires.given c.requires.planned
    c.loop-polynomial.polynomial-index c.loop-polynomial.invariant c.loop-polynomial-test.true

pub returns-in_err-reduced_at-clause-grows : goal.returns-in_err-reduced_at-clause-grows
returns-in_err-reduced_at-clause-grows g c =
    Grows-trans _ _ _ c.loop-polynomial.invariant.grows c.in_err-reduced_at.ensures.grows

pub returns-in_err-push-clause-grows : goal.returns-in_err-push-clause-grows
returns-in_err-push-clause-grows g c =
    Grows-trans _ _ _ c.loop-polynomial.invariant.grows c.in_ok-reduced_at.ensures.grows

pub loop-polynomial-preserved : goal.loop-polynomial-preserved
loop-polynomial-preserved g c =
    one_reduced (g.S.Store.state c.args.store.now) c.args.points c.args.given.now c.requires.points c.requires.given c.requires.planned
    c.loop-polynomial.polynomial-index c.loop-polynomial.invariant c.loop-polynomial-test.true c.in_ok-reduced_at.ensures
    c.in_ok-push.ensures.items

pub returns-clause-found : goal.returns-clause-found
returns-clause-found g c =
    all_reduced (g.S.Store.state c.args.store.now) c.args.points c.args.given.now c.loop-polynomial.polynomial-index
    c.loop-polynomial-test.false c.loop-polynomial.invariant
