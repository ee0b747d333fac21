use Rattle.std.proofs.Common.{◌≡◌, map, take}
use Rattle.aig_reader.specs.Order.{ordered, renumbered}
use Rattle.aig_reader.proofs.reading.renumbered_all.Given as goal

abbrev pub invariant-loop-literal : goal.invariant-loop-literal
invariant-loop-literal l = l.outputs.items ≡ map (renumbered l.inputs (ordered l.order)) (take l.literal-index l.literals)
