use Rattle.std.proofs.Common.{◌≡◌, map, take}
use Rattle.pla_reader.specs.Orders.{arranged_row}
use Rattle.pla_reader.proofs.arranging.arranged_rows.Given as goal

abbrev pub invariant-loop-row : goal.invariant-loop-row
invariant-loop-row l = l.arranged ≡ map (arranged_row l.inputs l.order) (take l.row-index l.rows)
