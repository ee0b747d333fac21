use Rattle.std.proofs.Common.{◌≡◌}
use Rattle.pla_reader.specs.Orders.{file_order}
use Rattle.pla_reader.proofs.order.file_order.Given as goal

abbrev pub invariant-loop-i : goal.invariant-loop-i
invariant-loop-i l = l.order ≡ file_order l.i
