use Rattle.std.proofs.Common.{refl}
use Rattle.node_store.proofs.StoreLaws.{Grows-trans}
use Rattle.pla_reader.specs.Reading.{description}
use Rattle.nf_run.proofs.QueryAnswers.{answer_planned, no_answers, one_answer, query_below}
use Rattle.nf_run.proofs.answering.answers_on.Goals as goal

pub loop-query-init : goal.loop-query-init
loop-query-init g c = rw c.new-answers.ensures.items (no_answers (description c.args.p.now) c.args.queries.now
    (g.S.Store.state c.args.store.now))

pub reduce_polynomial-requires-clause-below : goal.reduce_polynomial-requires-clause-below
reduce_polynomial-requires-clause-below g c =
    rw (c.as_slice.ensures, c.loop-query.invariant.grows.vars, c.requires.vars)
    (query_below (description c.args.p.now) c.args.queries.now c.args.p.now.outputs c.requires.over c.loop-query.query-index
    c.query-item.result c.loop-query-test.true c.query-item.is)

pub reduce_polynomial-requires-clause-planned : goal.reduce_polynomial-requires-clause-planned
reduce_polynomial-requires-clause-planned g c =
    rw c.as_slice.ensures (answer_planned (description c.args.p.now) c.args.queries.now (g.S.Store.state c.args.store.now) c.requires.vars
    c.requires.planned c.args.points.now c.requires.points c.loop-query.query-index c.loop-query-test.true c.query-item.result
    c.query-item.is _
    refl c.loop-query.invariant)

pub returns-in_err-reduce_polynomial-clause-grows : goal.returns-in_err-reduce_polynomial-clause-grows
returns-in_err-reduce_polynomial-clause-grows g c =
    Grows-trans _ _ _ c.loop-query.invariant.grows c.in_err-reduce_polynomial.ensures.gives.grows

pub returns-in_err-push-clause-grows : goal.returns-in_err-push-clause-grows
returns-in_err-push-clause-grows g c = Grows-trans _ _ _ c.loop-query.invariant.grows c.in_ok-reduce_polynomial.ensures.gives.grows

pub loop-query-preserved : goal.loop-query-preserved
loop-query-preserved g c =
    one_answer (description c.args.p.now) c.args.queries.now (g.S.Store.state c.args.store.now) c.requires.vars
    c.requires.planned c.args.points.now c.requires.points c.loop-query.query-index c.loop-query-test.true c.query-item.result
    c.query-item.is _
    refl c.loop-query.invariant (rw c.as_slice.ensures at c.in_ok-reduce_polynomial.ensures.gives) c.in_ok-push.ensures.items
