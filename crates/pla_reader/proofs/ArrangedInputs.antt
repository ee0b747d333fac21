-- What callers use of printed names and of orders.
-- There are as many printed names as inputs or outputs.
pub use Rattle.pla_reader.proofs.Orders.{count_printed}
-- A list is an order exactly where the test says so.
pub use Rattle.pla_reader.proofs.Orders.{orders_by_test}
