use Rattle.pla_reader.proofs.Orders.{arranged_mask_bit}
use Rattle.pla_reader.proofs.laws.arranged_bits.Goals as goal

pub returns : goal.returns
returns c = arranged_mask_bit
