use Rattle.std.proofs.Common.{◌≡◌, take}
use Rattle.aig_inputs.specs.Names.{marked_names}
use Rattle.aig_inputs.proofs.names.marked_names.Given as goal

abbrev pub invariant-loop-position : goal.invariant-loop-position
invariant-loop-position l = l.marked ≡ marked_names (take l.position-index l.order) l.inverted l.names
