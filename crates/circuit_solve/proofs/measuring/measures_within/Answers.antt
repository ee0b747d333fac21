use Rattle.std.proofs.Common.{rules}
use Rattle.std.proofs.Math.Pow.{pow_mono}
use Rattle.aig_reader.specs.Reading.{circuit}
use Rattle.circuit_solve.proofs.MeasureSteps.{measures_with_more}
use Rattle.circuit_solve.proofs.measuring.measures_within.Goals as goal

pub returns-in_default : goal.returns-in_default
returns-in_default c =
    measures_with_more (circuit c.args.aig.now) c.args.care _ (pow_mono c.loop-tried.invariant.1) (search rules) c.in_default.ensures

pub returns-in_default-2 : goal.returns-in_default-2
returns-in_default-2 c =
    measures_with_more (circuit c.args.aig.now) c.args.care c.measures_on.result (pow_mono c.loop-tried.invariant.1) (search rules)
    c.measures_on.ensures
