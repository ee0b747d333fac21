use Rattle.std.proofs.Common.{arith}
use Rattle.circuit_words.proofs.declared.one_of_modes.Goals as goal

pub returns-clause-rule : goal.returns-clause-rule
returns-clause-rule c = grind arith
