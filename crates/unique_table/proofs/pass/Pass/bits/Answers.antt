use Rattle.std.proofs.Common.{arith}
use Rattle.unique_table.specs.Views.{view_state}
use Rattle.unique_table.specs.PassOf.{pass_state, bits_of}
use Rattle.unique_table.proofs.pass.Pass.bits.Goals as goal

pub returns : goal.returns
unfolding pass_state view_state bits_of
returns c = grind arith
