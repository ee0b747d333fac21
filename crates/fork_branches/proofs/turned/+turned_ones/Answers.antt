use Rattle.std.proofs.Common.{rules}
use Rattle.node_store.proofs.StoreLaws.{Grows-refl, gives_as}
use Rattle.bool_poly.specs.Parts.{AsksOnes, AsksWith}
use Rattle.bool_poly.proofs.OnesLemmas.{ones_finish, ones_later, same_ones, same_with, sum_asks, with_after, with_later}
use Rattle.fork_branches.proofs.Branches.{both_reads, in_row, then_failed, turned_row}
use Rattle.fork_branches.proofs.turned.+turned_ones.Goals as goal

pub with_turned-ones_turned-requires : goal.with_turned-ones_turned-requires
with_turned-ones_turned-requires g m c κs within =
    let asks : AsksOnes (g.S.Store.state c.part_with.new.store) c.in_ok-with.with c.args.points =
    sum_asks c.requires.asks c.in_ok-with.ensures in
    search (rules, asks)

pub with_turned-returns : goal.with_turned-returns
with_turned-returns g m c =
    with_after (Grows-refl (g.S.Store.state c.args.store.now)) c.requires.asks c.in_ok-with.ensures c.ones_turned.ensures

pub ones_halves-ones_turned-requires : goal.ones_halves-ones_turned-requires
ones_halves-ones_turned-requires g m c κs within =
    let asks : AsksOnes (g.S.Store.state c.with_turned.new.store) c.args.c.a_low c.args.c.b_low =
    ones_later _ _ _ _ c.in_ok-hi.ensures.grows c.requires.low in
    search (rules, asks)

pub ones_halves-returns-in_err-lo : goal.ones_halves-returns-in_err-lo
ones_halves-returns-in_err-lo g m c = then_failed _ c.from_residual-in_err-lo.ensures.0 c.in_ok-hi.ensures c.in_err-lo.ensures

pub ones_halves-returns-then-has_high_first : goal.ones_halves-returns-then-has_high_first
ones_halves-returns-then-has_high_first g m c =
    let high = c.in_ok-hi.ensures in
    let same = same_ones (g.S.Store.state c.args.store.now) (g.S.Store.state c.with_turned.new.store) _ _ high.grows c.requires.low in
    turned_row high (gives_as same.0 same.1 c.in_ok-lo.ensures)

pub ones_halves-with_turned-requires-2 : goal.ones_halves-with_turned-requires-2
ones_halves-with_turned-requires-2 g m c κs within =
    let later = c.in_ok-lo-2.ensures.grows in
    let asks : AsksWith (g.S.Store.state c.ones_turned-2.new.store) c.args.c.a_low c.args.c.a_high c.args.c.b_high =
    with_later (g.S.Store.state c.args.store.now) _ _ _ _ later.known later.plan later.vars c.requires.high in
    search (rules, asks)

pub ones_halves-returns-in_err-hi-2 : goal.ones_halves-returns-in_err-hi-2
ones_halves-returns-in_err-hi-2 g m c = then_failed _ c.from_residual-in_err-hi-2.ensures.0 c.in_ok-lo-2.ensures c.in_err-hi-2.ensures

pub ones_halves-returns : goal.ones_halves-returns
ones_halves-returns g m c =
    let low = c.in_ok-lo-2.ensures in
    let same = same_with (g.S.Store.state c.args.store.now) (g.S.Store.state c.ones_turned-2.new.store) _ _ _ low.grows c.requires.high in
    in_row low (gives_as same.0 same.1 c.in_ok-hi-2.ensures)

pub ones_turned-finish_ones-requires : goal.ones_turned-finish_ones-requires
ones_turned-finish_ones-requires g m c =
    let is = c.in-Halves.ensures in let both = c.in_ok-lo-in-Halves.ensures in
    let all = ones_finish c.requires.asks is.operands is.cofactors is.reads (both_reads both) both.low both.low_held both.high
    both.high_held in
    record { asks = all.asks; varies = is.varies; filled = is.filled; cut = all.cut; halves = all.halves }

pub ones_turned-returns-in_ok-lo-in-Halves : goal.ones_turned-returns-in_ok-lo-in-Halves
ones_turned-returns-in_ok-lo-in-Halves g m c =
    let is = c.in-Halves.ensures in let both = c.in_ok-lo-in-Halves.ensures in
    (ones_finish c.requires.asks is.operands is.cofactors is.reads (both_reads both) both.low both.low_held both.high
    both.high_held).given c.finish_ones.ensures
