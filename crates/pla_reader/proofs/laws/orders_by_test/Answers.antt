use Rattle.pla_reader.proofs.Orders.{orders_by_test}
use Rattle.pla_reader.proofs.laws.orders_by_test.Goals as goal

pub returns : goal.returns
returns c = orders_by_test
