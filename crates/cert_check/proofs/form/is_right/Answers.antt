use Rattle.std.proofs.Common.{sym, ◌∙◌}
use Rattle.cert_check.proofs.LinesRead.{right_by_sum}
use Rattle.cert_check.proofs.form.is_right.Goals as goal

pub returns-else-is_word : goal.returns-else-is_word
returns-else-is_word c = right_by_sum c.args.right.now c.is_sum.result (sym c.is_word.ensures ∙ c.if-is_word.false) c.is_sum.ensures
