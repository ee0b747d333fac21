use Rattle.std.proofs.Common.{arith}
use Rattle.unique_table.specs.PassOf.{bits_of}
use Rattle.unique_table.proofs.pass.Pass.cache_bits.Goals as goal

pub returns-clause-is : goal.returns-clause-is
unfolding bits_of
returns-clause-is c = grind arith
