use Rattle.std.proofs.Common.{rules}
use Rattle.std.proofs.Math.Pow.{pow_mono}
use Rattle.aig_reader.specs.Reading.{circuit}
use Rattle.circuit_solve.proofs.Limits.{refused_with_more, within_more}
use Rattle.circuit_solve.proofs.solving.solve_within.Goals as goal

pub returns-in_default : goal.returns-in_default
returns-in_default c = record {
  solved = tt;
  within = tt;
  refused = λ other s is. refused_with_more c.loop-tried.tried c.args.bits c.args.limit (pow_mono c.loop-tried.invariant.1)
      (circuit c.args.aig.now) c.args.care _ (search rules) s (c.in_default.ensures.refused other (search rules) s is);
}

pub returns-in_default-2-clause-within : goal.returns-in_default-2-clause-within
returns-in_default-2-clause-within c =
    within_more c.loop-tried.tried c.args.bits c.args.limit (pow_mono c.loop-tried.invariant.1) (circuit c.args.aig.now) c.args.care
    c.solve_at_once.result c.solve_at_once.ensures.within
