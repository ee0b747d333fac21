use Rattle.std.proofs.Common.{ℕ, arith}
use Rattle.node_store.proofs.StoreLaws.{Gives-after, failed, then_call}
use Rattle.set_algebra.proofs.Calls.{cofactors_later}
use Rattle.set_algebra.proofs.Levels.{top_later}
use Rattle.bool_poly.specs.Parts.{AsksWith}
use Rattle.bool_poly.proofs.Halving.{halves_finish, high_falls, low_falls, ones_later, same_ones}
use Rattle.bool_poly.proofs.Steps.{OnesCut, low_asks, ones_cut, sum_asks, with_asks, with_later}
use Rattle.bool_poly.proofs.points.+halves.Goals as goal
use Rattle.bool_poly.proofs.points.+halves.Goals.{ones_halves-After-cut-c, ones_halves-In_ok-lo}
use Rattle.bool_poly.proofs.points.+halves.Given.{Over}

at_cut : (g : Over) (m : ℕ) (c : ones_halves-After-cut-c g m)
    → OnesCut (g.S.Store.state c.args.store.now) (g.S.Store.state c.cut-c.new.store) c.args.h c.args.set c.cut-c.result
at_cut g m c =
    ones_cut (g.met.S.Store.sound c.args.store.now) c.requires.asks c.requires.varies c.requires.filled c.cut-c.ensures.reads
    c.cut-c.ensures.cofactors

-- the second half may be asked for once there is the first
asks : (g : Over) (m : ℕ) (c : ones_halves-In_ok-lo g m)
    → AsksWith (g.S.Store.state c.ones_by.new.store) c.cut-c.result.a_low c.cut-c.result.a_high c.cut-c.result.b_high
asks g m c = let one = c.in_ok-lo.ensures.grows in
    with_later (g.S.Store.state c.cut-c.new.store) (g.S.Store.state c.ones_by.new.store) _ _ _ one.known one.plan one.vars
    (with_asks (ones_cut (g.met.S.Store.sound c.args.store.now) c.requires.asks c.requires.varies c.requires.filled c.cut-c.ensures.reads
    c.cut-c.ensures.cofactors) (g.met.S.Store.sound c.cut-c.new.store))

pub ones_by-ones_halves-requires : goal.ones_by-ones_halves-requires
ones_by-ones_halves-requires g m c κs within =
    let s = g.S.Store.state c.args.store.now in let t = g.S.Store.state c.found_ones.new.store in
    let grows = c.found_ones.ensures.reads.grows in
    let same = top_later s t c.args.h c.args.set grows c.requires.polynomial c.requires.points in (
      omega (arith, same, c.decreases),
      (within, (ones_later s t c.args.h c.args.set grows c.requires, (c.in-None.ensures.varies, c.in-None.ensures.filled))),
    )

pub ones_by-returns-in-None : goal.ones_by-returns-in-None
ones_by-returns-in-None g m c =
    let s = g.S.Store.state c.args.store.now in let t = g.S.Store.state c.found_ones.new.store in
    let same = same_ones s t c.args.h c.args.set c.found_ones.ensures.reads.grows c.requires in
    Gives-after s t _ _ _ _ c.found_ones.ensures.reads (rw (same.0, same.1) at c.ones_halves.ensures)

pub ones_halves-ones_by-requires : goal.ones_halves-ones_by-requires
ones_halves-ones_by-requires g m c κs within =
    let cut = at_cut g m (goal.at.ones_halves-ones_by-requires g m c).After-cut-c in
    (omega (arith, low_falls cut, c.decreases), (within, low_asks cut))

pub ones_halves-returns-in_err-lo : goal.ones_halves-returns-in_err-lo
ones_halves-returns-in_err-lo g m c = failed c.from_residual.ensures.0 c.cut-c.ensures.reads c.in_err-lo.ensures

pub ones_halves-part_with-requires : goal.ones_halves-part_with-requires
ones_halves-part_with-requires g m c =
    let is = asks g m (goal.at.ones_halves-part_with-requires g m c).In_ok-lo in
    record { low = is.low_known; high = is.high_known; points = is.points_known; planned = is.sum }

pub ones_halves-returns-in_err-with : goal.ones_halves-returns-in_err-with
ones_halves-returns-in_err-with g m c =
    failed c.from_residual-in_err-with.ensures.0 (then_call c.cut-c.ensures.reads c.in_ok-lo.ensures) c.in_err-with.ensures

pub ones_halves-ones_by-requires-2 : goal.ones_halves-ones_by-requires-2
ones_halves-ones_by-requires-2 g m c κs within =
    let is = c.requires in let one = c.in_ok-lo.ensures in
    let cut = ones_cut (g.met.S.Store.sound c.args.store.now) is.asks is.varies is.filled (then_call c.cut-c.ensures.reads one)
    (cofactors_later one.grows c.cut-c.ensures.cofactors) in (
      omega (arith, high_falls cut c.in_ok-with.ensures, c.decreases),
      (within, sum_asks (asks g m (goal.at.ones_halves-ones_by-requires-2 g m c).In_ok-lo) c.in_ok-with.ensures),
    )

pub ones_halves-returns-in_err-hi : goal.ones_halves-returns-in_err-hi
ones_halves-returns-in_err-hi g m c =
    failed c.from_residual-in_err-hi.ensures.0
    (then_call (then_call c.cut-c.ensures.reads c.in_ok-lo.ensures) c.in_ok-with.ensures) c.in_err-hi.ensures

pub ones_halves-finish_ones-requires : goal.ones_halves-finish_ones-requires
ones_halves-finish_ones-requires g m c =
    let is = c.requires in let cut = c.cut-c.ensures in
    let with_asked = with_asks (at_cut g m (goal.at.ones_halves-finish_ones-requires g m c).After-cut-c)
    (g.met.S.Store.sound c.cut-c.new.store) in
    let all = halves_finish is.asks cut.cofactors cut.reads with_asked c.in_ok-lo.ensures c.in_ok-with.ensures c.in_ok-hi.ensures in
    record { asks = all.asks; varies = is.varies; filled = is.filled; cut = all.cut; halves = all.halves }

pub ones_halves-returns : goal.ones_halves-returns
ones_halves-returns g m c =
    let cut = c.cut-c.ensures in
    let with_asked = with_asks (at_cut g m (goal.at.ones_halves-returns g m c).After-cut-c) (g.met.S.Store.sound c.cut-c.new.store) in
    let all = halves_finish c.requires.asks cut.cofactors cut.reads with_asked c.in_ok-lo.ensures c.in_ok-with.ensures
    c.in_ok-hi.ensures in
    all.given c.finish_ones.ensures
