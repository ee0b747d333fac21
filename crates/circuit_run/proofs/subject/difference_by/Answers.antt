use Rattle.std.proofs.lemmas.Result.{err_from_is_err_and}
use Rattle.aig_pairs.specs.Matching.{output_names}
use Rattle.aig_reader.specs.Reading.{circuit}
use Rattle.circuit_run.specs.Subjects.{miter_within}
use Rattle.circuit_run.specs.Views.{care_by}
use Rattle.circuit_run.proofs.Seeing.{unseen}
use Rattle.circuit_run.proofs.subject.difference_by.Goals as goal

pub returns-in_err-care : goal.returns-in_err-care
returns-in_err-care c =
    let stop = err_from_is_err_and c.from_residual.result c.from_residual.ensures.1 in
    let first = circuit c.args.first.now in
    rw (stop.1, stop.2) (unseen c.in_err-care.field-0.0 (care_by (output_names first) c.args.job.now.care)
    (miter_within first (circuit c.args.second.now)) c.in_err-care.ensures.care)

pub returns : goal.returns
returns c = rw c.in_ok-care.ensures.care c.difference_within.ensures
