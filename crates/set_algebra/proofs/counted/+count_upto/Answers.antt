use Rattle.std.proofs.Common.{arith, rules}
use Rattle.node_store.proofs.StoreLaws.{Grows-family, then_reads}
use Rattle.set_algebra.proofs.HalvesLemmas.{length_halves}
use Rattle.set_algebra.proofs.counted.+count_upto.Goals as goal

pub returns-in_err-low-in-Some-clause-over : goal.returns-in_err-low-in-Some-clause-over
returns-in_err-low-in-Some-clause-over g m c = grind (arith, length_halves)

pub returns-in_err-high-in-Some-clause-over : goal.returns-in_err-high-in-Some-clause-over
returns-in_err-high-in-Some-clause-over g m c = grind (arith, Grows-family, length_halves)

pub returns-in_ok-high-in-Some-clause-count : goal.returns-in_ok-high-in-Some-clause-count
returns-in_ok-high-in-Some-clause-count g m c = grind (arith, Grows-family, length_halves)

pub returns-in_err-high-in-Some-clause-reads : goal.returns-in_err-high-in-Some-clause-reads
returns-in_err-high-in-Some-clause-reads g m c = search (rules, arith, then_reads)

pub returns-in_ok-high-in-Some-clause-reads : goal.returns-in_ok-high-in-Some-clause-reads
returns-in_ok-high-in-Some-clause-reads g m c = search (rules, arith, then_reads)
