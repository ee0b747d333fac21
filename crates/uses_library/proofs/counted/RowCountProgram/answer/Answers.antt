use Rattle.std.proofs.Common.{◌∙◌, ap, sym}
use Rattle.pla_reader.specs.Reading.{description}
use Rattle.program.proofs.Endings.{answers_done, answers_without, unread_ends}
use Rattle.uses_library.specs.RowCount.{count_due, count_text}
use Rattle.uses_library.proofs.counted.RowCountProgram.answer.Goals as goal

pub returns-in-Ok-clause-answers : goal.returns-in-Ok-clause-answers
returns-in-Ok-clause-answers g c =
    let bytes = c.as_bytes.ensures.value ∙ c.as_str.ensures.value ∙ c.text_of.ensures in
    answers_done (count_text (description c.in-Ok.pla)) (sym (ap count_due c.in-Ok.ensures.reading)) c.write_page.ensures.ends
    (rw bytes at c.write_page.ensures.whole) (rw bytes at c.write_page.ensures.less) tt

pub returns-in-Err-clause-answers : goal.returns-in-Err-clause-answers
returns-in-Err-clause-answers g c = rw c.from.ensures (answers_without (g.K.Sink.held c.args.out.now) (λ text. tt)
    (unread_ends c.args.bytes.now (λ refusal read. sym (ap count_due read)) c.in-Err.refusal c.in-Err.ensures.reading))
