use Rattle.std.proofs.Common.{arith}
use Rattle.gen_pla.proofs.Progression.{generated_fits}
use Rattle.gen_pla.proofs.generate.Goals as goal

pub invariant_of-result : goal.invariant_of-result
invariant_of-result c = let rows = c.loop-k.invariant in let fits = generated_fits c.args.seed in grind arith
