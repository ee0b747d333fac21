use Rattle.std.proofs.lemmas.Result.{err_from_is_err_and}
use Rattle.circuit_run.proofs.Subjects.{compared_ends, compared_is}
use Rattle.circuit_run.proofs.subject.read_difference.Goals as goal

pub returns-in_err-first-clause-err : goal.returns-in_err-first-clause-err
returns-in_err-first-clause-err c =
    let stop = err_from_is_err_and c.from_residual.result c.from_residual.ensures.1 in
    rw (stop.1, stop.2) c.in_err-first.ensures.err

pub returns-clause-ok : goal.returns-clause-ok
returns-clause-ok c = compared_is c.args.job.now c.args.bytes.now c.requires.mode c.in_ok-first.first c.in_ok-first.second
    c.in_ok-first.ensures.ok c.compare.result c.compare.ensures

pub returns-clause-err : goal.returns-clause-err
returns-clause-err c = compared_ends c.args.job.now c.args.bytes.now c.requires.mode c.in_ok-first.first c.in_ok-first.second
    c.in_ok-first.ensures.ok c.compare.result c.compare.ensures
