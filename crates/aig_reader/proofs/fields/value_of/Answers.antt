use Rattle.aig_reader.specs.declared.fields.TheConstants.{NUMBER_BOUND}
use Rattle.aig_reader.proofs.Numbers.{number_more}
use Rattle.aig_reader.proofs.fields.value_of.Goals as goal

pub loop-digit-preserved : goal.loop-digit-preserved
loop-digit-preserved c =
    rw (c.min-value.ensures, c.from.ensures)
    (number_more NUMBER_BOUND c.args.digits.now c.loop-digit.digit-index c.loop-digit.value c.loop-digit-test.true
    c.requires c.loop-digit.invariant)
