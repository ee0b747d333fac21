use Rattle.std.proofs.Common.{◌≡◌}
use Rattle.pla_reader.specs.Orders.{file_order}
use Rattle.circuit_run.proofs.view.file_order.Given as goal

abbrev pub invariant-loop-input : goal.invariant-loop-input
invariant-loop-input l = l.order ≡ file_order l.input
