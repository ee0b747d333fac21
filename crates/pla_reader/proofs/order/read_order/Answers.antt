use Rattle.std.proofs.Common.{codes, arith}
use Rattle.pla_reader.proofs.Orders.{count_printed}
use Rattle.pla_reader.proofs.order.read_order.Goals as goal

pub order_of-requires : goal.order_of-requires
order_of-requires c =
    let count = count_printed (codes "x") _ _ _ _ c.args.p.now.fits.in_count c.printed.ensures c.in_ok-in_place.ensures in grind arith

pub returns-clause-good : goal.returns-clause-good
returns-clause-good c =
    let count = count_printed (codes "x") _ _ _ _ c.args.p.now.fits.in_count c.printed.ensures c.in_ok-in_place.ensures in grind arith

pub returns-clause-bad : goal.returns-clause-bad
returns-clause-bad c =
    let count = count_printed (codes "x") _ _ _ _ c.args.p.now.fits.in_count c.printed.ensures c.in_ok-in_place.ensures in grind arith

pub returns-clause-names : goal.returns-clause-names
returns-clause-names c = grind arith
