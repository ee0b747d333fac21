use Rattle.std.proofs.Common.{arith}
use Rattle.anf_printer.proofs.Places.{length_factors}
use Rattle.anf_printer.proofs.factors.factors_len.Goals as goal

pub overflow_add-len-in-loop-rest : goal.overflow_add-len-in-loop-rest
overflow_add-len-in-loop-rest c = let next = length_factors _ _ _ _ c.first_variable-others.ensures.first in grind arith
