use Rattle.std.proofs.Common.{arith}
use Rattle.aig_inputs.proofs.ArrangedCircuits.{arranged_fits}
use Rattle.aig_inputs.proofs.arranging.arrange_circuit.Goals as goal

pub names_in_order-requires : goal.names_in_order-requires
names_in_order-requires c = let count = c.args.aig.now.fits.in_count in grind arith

pub invariant_of-result : goal.invariant_of-result
invariant_of-result c =
    let aig = c.args.aig.now in
    let fits = arranged_fits _ _ _ _ _ c.args.order.now c.args.inverted.now c.requires.order aig.fits in grind arith
