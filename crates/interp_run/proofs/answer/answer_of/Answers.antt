use Rattle.std.proofs.Common.{ap, arith, not}
use Rattle.std.proofs.lemmas.Result.{IfErr-weaker, IfOk-weaker}
use Rattle.program.specs.Duties.{too_long, within}
use Rattle.program.specs.Runs.{due_without}
use Rattle.program.proofs.Endings.{ends_as}
use Rattle.interp_run.proofs.Due.{solves_without_gen}
use Rattle.interp_run.proofs.answer.answer_of.Goals as goal

pub returns-then-bytes-gt-MOST_BYTES-clause-err : goal.returns-then-bytes-gt-MOST_BYTES-clause-err
returns-then-bytes-gt-MOST_BYTES-clause-err g c =
    due_without _ (too_long (ap not (solves_without_gen _ c.requires.mode).1) (omega arith))

pub returns-clause-ok : goal.returns-clause-ok
returns-clause-ok g c = IfOk-weaker c.answer_file.result _ _
    (λ a is. within _ (ap not (solves_without_gen _ c.requires.mode).1) (omega arith) is) c.answer_file.ensures.ok

pub returns-clause-err : goal.returns-clause-err
returns-clause-err g c = IfErr-weaker c.answer_file.result _ _
    (λ o. ends_as (λ due is. within due (ap not (solves_without_gen _ c.requires.mode).1) (omega arith) is)) c.answer_file.ensures.err
