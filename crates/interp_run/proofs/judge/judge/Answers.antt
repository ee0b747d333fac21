use Rattle.std.proofs.Common.{◌∙◌, ap, arith, drop, length, length-drop, refl}
use Rattle.std.proofs.lemmas.Result.{err_from_is_err_and}
use Rattle.program.specs.Runs.{no_memory}
use Rattle.interp_run.specs.Due.{is_gen}
use Rattle.interp_run.proofs.Due.{clash_behind, refused_ends, verdict_due, wide_ends}
use Rattle.interp_run.proofs.judge.judge.Goals as goal

pub describe-requires-clause-reads : goal.describe-requires-clause-reads
describe-requires-clause-reads c = ap is_gen c.requires.mode

pub returns-then-pla-gt-MOST_INPUTS-clause-err : goal.returns-then-pla-gt-MOST_INPUTS-clause-err
returns-then-pla-gt-MOST_INPUTS-clause-err c = wide_ends c.in_ok-pla.ensures.ok c.requires.mode refl (omega arith)

pub read_answer-requires : goal.read_answer-requires
read_answer-requires c = omega (arith, c.requires.few, ap length c.behind.ensures, length-drop c.in_ok-pla.taken c.args.bytes.now)

pub returns-in-Err-clause-err : goal.returns-in-Err-clause-err
returns-in-Err-clause-err c = rw c.end_refused.ensures
    (refused_ends c.in_ok-pla.ensures.ok c.requires.mode (c.behind.ensures ∙ ap (λ n. drop n c.args.bytes.now) c.in_ok-pla.ensures.taken)
    (omega arith) _ c.in-Err.ensures.reading)

pub returns-in_err-check_rows-clause-err : goal.returns-in_err-check_rows-clause-err
returns-in_err-check_rows-clause-err c =
    let stop = err_from_is_err_and c.from_residual-in_err-check_rows.result c.from_residual-in_err-check_rows.ensures.1 in
    rw (stop.1, stop.2) (clash_behind c.in_ok-pla.ensures.ok c.requires.mode
    (c.behind.ensures ∙ ap (λ n. drop n c.args.bytes.now) c.in_ok-pla.ensures.taken) (omega arith) c.in-Ok.ensures.reading
    c.in_err-check_rows.ensures.err)

pub returns-in-Ok-check-clause-ok : goal.returns-in-Ok-check-clause-ok
returns-in-Ok-check-clause-ok c = verdict_due c.in_ok-pla.ensures.ok c.requires.mode
    (c.behind.ensures ∙ ap (λ n. drop n c.args.bytes.now) c.in_ok-pla.ensures.taken) (omega arith) c.in-Ok.ensures.reading
    c.in-Ok-check.verdict c.in_ok-check_rows.ensures.ok c.in-Ok-check.ensures.first

pub returns-clause-err : goal.returns-clause-err
returns-clause-err c = no_memory
