use Rattle.std.proofs.Common.{arith, rules}
use Rattle.pla_reader.proofs.ArrangedInputs.{count_printed}
use Rattle.anf_printer.proofs.polynomial.poly_text.Goals as goal

pub push_polynomial-requires : goal.push_polynomial-requires
push_polynomial-requires c = search (rules, arith, count_printed)
