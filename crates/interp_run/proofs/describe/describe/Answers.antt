use Rattle.std.proofs.Common.{Ok}
use Rattle.program.specs.Descriptions.{unread_outcome}
use Rattle.program.specs.Runs.{EndsWithout}
use Rattle.program.proofs.Endings.{unread_ends}
use Rattle.interp_run.specs.Due.{IsDue}
use Rattle.interp_run.proofs.Due.{disordered_ends, file_read, if_err, text_due}
use Rattle.interp_run.proofs.describe.describe.Goals as goal

pub returns-in_err-pla-clause-err : goal.returns-in_err-pla-clause-err
returns-in_err-pla-clause-err c =
    let job = c.args.job.now in let bytes = c.args.bytes.now in
    if_err c.from_residual.result (unread_outcome c.in_err-pla.field-0.0) (EndsWithout (IsDue job bytes)) c.from_residual.ensures.1
    (unread_ends bytes (text_due job c.requires.reads bytes) c.in_err-pla.field-0.0 c.in_err-pla.ensures.reading)

pub returns-in_err-file-clause-err : goal.returns-in_err-file-clause-err
returns-in_err-file-clause-err c =
    let job = c.args.job.now in let bytes = c.args.bytes.now in
    if_err c.from_residual-in_err-file.result c.in_err-file.field-0.0 (EndsWithout (IsDue job bytes))
    c.from_residual-in_err-file.ensures.1
    (disordered_ends job c.requires.reads bytes _ c.in_ok-pla.ensures.reading c.in_err-file.ensures.err)

pub returns-clause-ok : goal.returns-clause-ok
returns-clause-ok c =
    file_read c.args.job.now c.requires.reads c.args.bytes.now (Ok _) c.in_ok-pla.ensures.reading c.in_ok-file.ensures.ok
