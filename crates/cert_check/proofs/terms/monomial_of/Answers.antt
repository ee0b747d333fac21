use Rattle.std.proofs.Common.{arith, rules}
use Rattle.cert_check.proofs.LinesRead.{one_ascends, one_is}
use Rattle.cert_check.proofs.terms.monomial_of.Goals as goal

pub returns-then-is_word : goal.returns-then-is_word
returns-then-is_word c = search (rules, arith, one_ascends, one_is)
