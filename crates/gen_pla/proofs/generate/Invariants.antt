use Rattle.std.proofs.Common.{◌≡◌}
use Rattle.gen_pla.specs.Generated.{generated_rows}
use Rattle.gen_pla.proofs.generate.Given as goal

abbrev pub invariant-loop-k : goal.invariant-loop-k
invariant-loop-k l = l.rows.items ≡ generated_rows l.fn.seed l.k
