use Rattle.std.proofs.Common.{ℕ, refl, rules}
use Rattle.lattice.specs.Words.{test_of}
use Rattle.node_store.proofs.StoreLaws.{gives_as}
use Rattle.set_algebra.specs.Pairs.{Asks}
use Rattle.set_algebra.proofs.Levels.{Finishes, asks_later, combine_later, finishes}
use Rattle.fork_branches.proofs.Branches.{both_reads, in_row, then_failed, turned_row}
use Rattle.fork_branches.proofs.turned.+turned.Goals as goal
use Rattle.fork_branches.proofs.turned.+turned.Goals.{combine_turned-In_ok-lo-in-Halves}
use Rattle.fork_branches.proofs.turned.+turned.Given.{Over}

pub combine_halves-returns-in_err-lo : goal.combine_halves-returns-in_err-lo
combine_halves-returns-in_err-lo g m c = then_failed _ c.from_residual-in_err-lo.ensures.0 c.in_ok-hi.ensures c.in_err-lo.ensures

pub combine_halves-returns-then-has_high_first : goal.combine_halves-returns-then-has_high_first
combine_halves-returns-then-has_high_first g m c =
    let high = c.in_ok-hi.ensures in let low = c.requires.low in
    let same = combine_later (test_of c.args.op) (g.S.Store.state c.args.store.now) (g.S.Store.state c.combine_turned.new.store)
    c.args.c.a_low c.args.c.b_low high.grows low.first low.second in
    turned_row high (gives_as same (rw (same, high.grows.vars) refl) c.in_ok-lo.ensures)

pub combine_halves-combine_turned-requires-3 : goal.combine_halves-combine_turned-requires-3
combine_halves-combine_turned-requires-3 g m c κs within =
    let asks : Asks c.args.op (g.S.Store.state c.combine_turned-2.new.store) c.args.c.a_high c.args.c.b_high =
    asks_later c.args.op _ _ _ _ c.in_ok-lo-2.ensures.grows c.requires.high in
    search (rules, asks)

pub combine_halves-returns-in_err-hi-2 : goal.combine_halves-returns-in_err-hi-2
combine_halves-returns-in_err-hi-2 g m c = then_failed _ c.from_residual-in_err-hi-2.ensures.0 c.in_ok-lo-2.ensures c.in_err-hi-2.ensures

pub combine_halves-returns : goal.combine_halves-returns
combine_halves-returns g m c =
    let low = c.in_ok-lo-2.ensures in let high = c.requires.high in
    let same = combine_later (test_of c.args.op) (g.S.Store.state c.args.store.now) (g.S.Store.state c.combine_turned-2.new.store)
    c.args.c.a_high c.args.c.b_high low.grows high.first high.second in
    in_row low (gives_as same (rw (same, low.grows.vars) refl) c.in_ok-hi-2.ensures)

whole : (g : Over) (m : ℕ) (c : combine_turned-In_ok-lo-in-Halves g m)
    → Finishes c.args.op (g.S.Store.state c.args.store.now) (g.S.Store.state c.combine_halves.new.store) c.args.a c.args.b
    c.in-Halves.halved.x c.in-Halves.halved.y c.in-Halves.halved.cofactors.var c.in_ok-lo-in-Halves.lo c.in_ok-lo-in-Halves.hi
whole g m c =
    let is = c.in-Halves.ensures in let both = c.in_ok-lo-in-Halves.ensures in
    finishes c.requires.asks is.order is.cofactors is.reads (both_reads both) both.low both.high

pub combine_turned-finish-requires : goal.combine_turned-finish-requires
combine_turned-finish-requires g m c =
    let all = whole g m (goal.at.combine_turned-finish-requires g m c).In_ok-lo-in-Halves in
    record { op = c.requires.op; asks = all.asks; cut = all.cut; low = all.low; high = all.high }

pub combine_turned-returns-in_ok-lo-in-Halves : goal.combine_turned-returns-in_ok-lo-in-Halves
combine_turned-returns-in_ok-lo-in-Halves g m c =
    (whole g m (goal.at.combine_turned-returns-in_ok-lo-in-Halves g m c).In_ok-lo-in-Halves).given c.finish.ensures
