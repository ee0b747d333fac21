use Rattle.pla_reader.proofs.Numbers.{number_more}
use Rattle.pla_reader.proofs.arguments.number.Goals as goal

pub loop-digit-preserved : goal.loop-digit-preserved
loop-digit-preserved c =
    rw (c.min-value.ensures, c.from.ensures)
    (number_more c.args.digits.now c.loop-digit.digit-index c.loop-digit.value c.loop-digit-test.true c.requires c.loop-digit.invariant)
