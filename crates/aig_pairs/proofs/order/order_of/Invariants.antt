use Rattle.std.proofs.Common.{◌≡◌, ◌≤◌, take, length}
use Rattle.std.specs.List.{All}
use Rattle.pla_reader.specs.Orders.{names_in_order}
use Rattle.aig_pairs.proofs.order.order_of.Given as goal

abbrev pub invariant-loop-name : goal.invariant-loop-name
invariant-loop-name l = record {
  named : names_in_order l.order l.names ≡ take l.name-index l.wanted;
  within : All (λ position. (1 ≤ position) × (position ≤ length l.names)) l.order;
}
