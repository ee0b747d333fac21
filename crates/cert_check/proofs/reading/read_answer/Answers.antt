use Rattle.std.proofs.Common.{arith, rules}
use Rattle.pla_reader.proofs.ArrangedInputs.{count_printed}
use Rattle.cert_check.proofs.LinesRead.{answer_fits}
use Rattle.cert_check.proofs.reading.read_answer.Goals as goal

pub read_lines-requires-clause-few : goal.read_lines-requires-clause-few
read_lines-requires-clause-few c = search (rules, arith, count_printed)

pub returns-clause-polynomials : goal.returns-clause-polynomials
returns-clause-polynomials c = search (rules, arith, count_printed, answer_fits)
