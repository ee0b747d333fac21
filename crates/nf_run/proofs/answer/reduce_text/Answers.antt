use Rattle.std.proofs.Common.{◌∙◌, ap, reverse, sym}
use Rattle.std.specs.Prelude.{Err, Ok}
use Rattle.std.proofs.lemmas.Result.{err_from_is_err_and}
use Rattle.pla_reader.specs.Reading.{description}
use Rattle.nf_run.proofs.Endings.{answers_due, clash_reduced, unreduced_ends}
use Rattle.nf_run.proofs.QueryAnswers.{answers_are, answers_over}
use Rattle.nf_run.proofs.answer.reduce_text.Goals as goal

pub returns-in_err-check_rows-clause-err : goal.returns-in_err-check_rows-clause-err
returns-in_err-check_rows-clause-err c =
    let stop = err_from_is_err_and c.from_residual.result c.from_residual.ensures.1 in
    rw (stop.1, stop.2) (clash_reduced c.in-Ok.ensures.reading c.in_err-check_rows.ensures.err)

pub returns-in-Err-reduce-clause-err : goal.returns-in-Err-reduce-clause-err
returns-in-Err-reduce-clause-err c =
    let e = c.in-Err-reduce.ensures in
    rw c.stop.ensures (unreduced_ends (c.in-Ok.ensures.reading ∙ ap Ok (sym c.as_slice.ensures)) c.in_ok-check_rows.ensures.ok
    c.in-Err-reduce.refusal (λ is. e.exhausted (ap Err is)) (λ is. e.terms (ap Err is)))

pub answers_text-requires-clause-families : goal.answers_text-requires-clause-families
answers_text-requires-clause-families c =
    let d = description c.args.p.now in
    rw (c.as_slice-3.ensures, answers_are d reverse _ _ c.in-Ok-reduce.ensures.answers) (answers_over d _)

pub returns-in-Ok-answers_text-clause-ok : goal.returns-in-Ok-answers_text-clause-ok
returns-in-Ok-answers_text-clause-ok c =
    let e = c.in-Ok-reduce.ensures in
    rw (
      c.in-Ok-answers_text.ensures,
      c.as_slice-2.ensures ∙ sym c.as_slice.ensures,
      c.as_slice-3.ensures,
      answers_are (description c.args.p.now) reverse _ _ e.answers,
    )
    (answers_due (c.in-Ok.ensures.reading ∙ ap Ok (sym c.as_slice.ensures)) c.in_ok-check_rows.ensures.ok e.fits e.few)
