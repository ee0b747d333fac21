use Rattle.std.proofs.Common.{◌≡◌, ◌≢◌, ◌≤◌, take, length}
use Rattle.std.specs.List.{All, AllPairs}
use Rattle.pla_reader.specs.Orders.{order_named}
use Rattle.pla_reader.proofs.order.order_of.Given as goal

abbrev pub invariant-loop-name : goal.invariant-loop-name
invariant-loop-name l = record {
  so_far : l.order ≡ take (length l.yielded) (order_named l.names l.text);
  positions : All (λ position. (1 ≤ position) × (position ≤ length l.names)) l.order;
  distinct : AllPairs (λ i j. i ≢ j) l.order;
}
