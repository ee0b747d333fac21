use Rattle.pla_reader.proofs.Orders.{printed_in_order}
use Rattle.pla_reader.proofs.laws.arranged_names_are_printed.Goals as goal

pub returns : goal.returns
returns c = printed_in_order
