use Rattle.std.proofs.Common.{arith, rules}
use Rattle.cert_check.proofs.LinesRead.{two_words}
use Rattle.cert_check.proofs.form.sides.Goals as goal

pub returns-in_err-right : goal.returns-in_err-right
returns-in_err-right c = search (rules, arith, two_words)
