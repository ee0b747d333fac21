use Rattle.std.proofs.Common.{arith}
use Rattle.aig_pairs.proofs.Matched.{outputs_fit}
use Rattle.aig_pairs.proofs.matching.in_output_order.Goals as goal

pub invariant_of-result : goal.invariant_of-result
invariant_of-result c =
    let aig = c.args.aig in let fits = outputs_fit _ _ _ _ _ c.args.order.now c.requires aig.fits in grind arith
