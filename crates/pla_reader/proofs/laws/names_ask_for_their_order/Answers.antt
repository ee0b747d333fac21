use Rattle.pla_reader.proofs.Orders.{order_of_names}
use Rattle.pla_reader.proofs.laws.names_ask_for_their_order.Goals as goal

pub returns : goal.returns
returns c = order_of_names
