use Rattle.std.proofs.Common.{rules}
use Rattle.std.proofs.Math.Pow.{pow_mono}
use Rattle.circuit_solve.proofs.Found.{with_more}
use Rattle.circuit_solve.proofs.searching.answers_within.Goals as goal

pub returns-in_default : goal.returns-in_default
returns-in_default c = with_more _ (pow_mono c.loop-tried.invariant.1) (search rules) c.in_default.ensures

pub returns-in_default-2 : goal.returns-in_default-2
returns-in_default-2 c = with_more c.answers_on.result (pow_mono c.loop-tried.invariant.1) (search rules) c.answers_on.ensures
