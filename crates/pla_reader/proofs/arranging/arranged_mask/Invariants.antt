use Rattle.std.proofs.Common.{◌≡◌, take}
use Rattle.pla_reader.specs.Orders.{arranged_mask}
use Rattle.pla_reader.proofs.arranging.arranged_mask.Given as goal

abbrev pub invariant-loop-position : goal.invariant-loop-position
invariant-loop-position l = l.arranged ≡ arranged_mask l.inputs (take l.position-index l.order) l.mask
