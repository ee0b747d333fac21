use Rattle.std.proofs.Common.{rules}
use Rattle.std.proofs.Math.Pow.{pow_mono}
use Rattle.aig_reader.specs.Reading.{circuit}
use Rattle.circuit_solve.proofs.OneSteps.{ones_with_more}
use Rattle.circuit_solve.proofs.ones.least_ones_within.Goals as goal

pub returns-in_default : goal.returns-in_default
returns-in_default c =
    ones_with_more (circuit c.args.aig.now) c.args.care _ (pow_mono c.loop-tried.invariant.1) (search rules) c.in_default.ensures

pub returns-in_default-2 : goal.returns-in_default-2
returns-in_default-2 c =
    ones_with_more (circuit c.args.aig.now) c.args.care c.least_ones_on.result (pow_mono c.loop-tried.invariant.1) (search rules)
    c.least_ones_on.ensures
