use Rattle.std.proofs.Common.{◌≡◌, map, take}
use Rattle.aig_inputs.specs.Arranged.{arranged_literal}
use Rattle.aig_inputs.proofs.arranging.arranged_literals.Given as goal

abbrev pub invariant-loop-literal : goal.invariant-loop-literal
invariant-loop-literal l = l.arranged ≡ map (arranged_literal l.order l.inverted) (take l.literal-index l.literals)
