use Rattle.std.proofs.lemmas.Result.{err_from_is_err_and}
use Rattle.circuit_run.proofs.Endings.{answer_ends, answer_seen, seen_due, seen_ends, unread_ends, unseen_ends}
use Rattle.circuit_run.proofs.answer.answer_job.Goals as goal

pub returns-in_err-aig-clause-err : goal.returns-in_err-aig-clause-err
returns-in_err-aig-clause-err c =
    let stop = err_from_is_err_and c.from_residual.result c.from_residual.ensures.1 in
    rw (stop.1, stop.2) (unread_ends c.args.job.now c.in_err-aig.field-0.0 c.in_err-aig.ensures.err)

pub returns-in_err-seen-clause-err : goal.returns-in_err-seen-clause-err
returns-in_err-seen-clause-err c =
    let stop = err_from_is_err_and c.from_residual-in_err-seen.result c.from_residual-in_err-seen.ensures.1 in
    rw (stop.1, stop.2) (unseen_ends c.args.job.now c.in_ok-aig.ensures.ok c.in_err-seen.field-0.0 c.in_err-seen.ensures.seen)

pub returns-in_err-solve_text-in-Anf-clause-err : goal.returns-in_err-solve_text-in-Anf-clause-err
returns-in_err-solve_text-in-Anf-clause-err c =
    let stop = err_from_is_err_and c.from_residual-in_err-solve_text-in-Anf.result c.from_residual-in_err-solve_text-in-Anf.ensures.1 in
    rw (stop.1, stop.2) (seen_ends c.args.job.now c.in_ok-aig.ensures.ok c.in_ok-seen.ensures.seen
    c.in_err-solve_text-in-Anf.ensures.err)

pub returns-in-Anf-clause-ok : goal.returns-in-Anf-clause-ok
returns-in-Anf-clause-ok c = rw c.done.ensures
    (seen_due c.args.job.now c.in_ok-aig.ensures.ok c.in_ok-seen.ensures.seen c.in_ok-solve_text-in-Anf.ensures.ok)

pub returns-in_err-count_text-in-Count-clause-err : goal.returns-in_err-count_text-in-Count-clause-err
returns-in_err-count_text-in-Count-clause-err c =
    let stop = err_from_is_err_and c.from_residual-in_err-count_text-in-Count.result c.from_residual-in_err-count_text-in-Count.ensures.1 in
    rw (stop.1, stop.2) (seen_ends c.args.job.now c.in_ok-aig.ensures.ok c.in_ok-seen.ensures.seen
    c.in_err-count_text-in-Count.ensures.err)

pub returns-in-Count-clause-ok : goal.returns-in-Count-clause-ok
returns-in-Count-clause-ok c = rw c.done-in-Count.ensures
    (seen_due c.args.job.now c.in_ok-aig.ensures.ok c.in_ok-seen.ensures.seen c.in_ok-count_text-in-Count.ensures.ok)

pub returns-clause-ok : goal.returns-clause-ok
returns-clause-ok c = answer_seen c.args.job.now c.in_ok-aig.ensures.ok c.in_ok-seen.ensures.seen c.equal_answer.result
    c.equal_answer.ensures.ok

pub returns-clause-err : goal.returns-clause-err
returns-clause-err c = answer_ends c.args.job.now c.in_ok-aig.ensures.ok c.in_ok-seen.ensures.seen c.equal_answer.result
    c.equal_answer.ensures.err
