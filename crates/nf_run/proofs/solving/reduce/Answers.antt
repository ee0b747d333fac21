use Rattle.std.proofs.Common.{arith, rules}
use Rattle.std.proofs.Math.Pow.{pow_mono}
use Rattle.std.proofs.lemmas.Result.{on_ok_weaker}
use Rattle.nf_run.proofs.solving.reduce.Goals as goal

pub returns-in_default : goal.returns-in_default
returns-in_default c = record {
  answers = tt;
  fits = tt;
  few = tt;
  exhausted = search rules;
  terms = λ over. let is = c.in_default.ensures.terms over in (omega (arith, is.0, pow_mono c.loop-tried.invariant.1), is.1);
}

pub returns-in_default-2-clause-fits : goal.returns-in_default-2-clause-fits
returns-in_default-2-clause-fits c =
    on_ok_weaker c.reduce_on.result (λ fits. omega (arith, fits, pow_mono c.loop-tried.invariant.1)) c.reduce_on.ensures.fits
