use Rattle.std.proofs.Common.{arith, codes}
use Rattle.pla_reader.proofs.Orders.{count_printed, arranged_fits}
use Rattle.pla_reader.proofs.arranging.arrange.Goals as goal

pub names_in_order-requires : goal.names_in_order-requires
names_in_order-requires c =
    let count = count_printed (codes "x") _ _ _ _ c.args.p.now.fits.in_count c.printed-names.ensures c.in_ok-in_place.ensures in grind arith

pub invariant_of-result : goal.invariant_of-result
invariant_of-result c =
    let fits = arranged_fits _ _ _ _ _ _ c.printed-names.result.now c.args.order.now c.requires c.args.p.now.fits in grind arith
