use Rattle.std.proofs.Common.{arith}
use Rattle.circuit_run.specs.Subjects.{no_pair, one_alone}
use Rattle.circuit_run.proofs.Subjects.{pair_fault}
use Rattle.circuit_run.proofs.subject.read_two.Goals as goal

pub refused-requires : goal.refused-requires
refused-requires c = omega (
  arith,
  c.requires.few,
  pair_fault c.args.bytes.now c.in-Err-Bad.refusal
      (rw c.in-Err-Bad.field-0-is at c.in-Err-Bad.ensures),
)

pub returns-in-Err-Bad-clause-err : goal.returns-in-Err-Bad-clause-err
returns-in-Err-Bad-clause-err c = rw c.refused.ensures
    (no_pair c.in-Err-Bad.refusal c.requires.mode (rw c.in-Err-Bad.field-0-is at c.in-Err-Bad.ensures))

pub returns-in-Err-Alone-clause-err : goal.returns-in-Err-Alone-clause-err
returns-in-Err-Alone-clause-err c = one_alone c.requires.mode (rw c.in-Err-Alone.field-0-is at c.in-Err-Alone.ensures)
