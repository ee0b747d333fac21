use Rattle.std.proofs.Common.{◌≡◌, take}
use Rattle.pla_reader.specs.Orders.{names_in_order}
use Rattle.pla_reader.proofs.arranging.names_in_order.Given as goal

abbrev pub invariant-loop-position : goal.invariant-loop-position
invariant-loop-position l = l.arranged ≡ names_in_order (take l.position-index l.order) l.names
