use Rattle.std.proofs.Common.{◌≡◌, ◌+◌, map}
use Rattle.lattice.specs.Words.{numbers_below}
use Rattle.circuit_run.proofs.texts.answered.Given as goal

abbrev pub invariant-loop-output : goal.invariant-loop-output
invariant-loop-output l = l.numbers.items ≡ map (λ k. k + 1) (numbers_below l.output)
