use Rattle.std.proofs.Common.{◌∙◌, ℕ, arith}
use Rattle.lattice.specs.Words.{test_of}
use Rattle.node_store.proofs.StoreLaws.{Builds-after, failed, then_call}
use Rattle.set_algebra.proofs.Halving.{cofactors_later, halves_finish, high_falls, low_falls, parts_asked}
use Rattle.set_algebra.proofs.Levels.{asks_later, combine_later, order-asks, order-same, order-top, top_later}
use Rattle.set_algebra.specs.Pairs.{AreInOrder, Asks}
use Rattle.set_algebra.proofs.pointwise.+halves.Goals as goal
use Rattle.set_algebra.proofs.pointwise.+halves.Goals.{combine_by-After-in_order, combine_halves-After-cut-c}
use Rattle.set_algebra.proofs.pointwise.+halves.Given.{Over}

-- the operands in order
ordered : (g : Over) (m : ℕ) (c : combine_by-After-in_order g m)
    → AreInOrder g.O.Pointwise.OP c.args.a c.args.b c.in_order.result.0 c.in_order.result.1
ordered g m c = rw c.OP-op.ensures at c.in_order.ensures

mine : (g : Over) (m : ℕ) (c : combine_by-After-in_order g m)
    → Asks g.O.Pointwise.OP (g.S.Store.state c.args.store.now) c.in_order.result.0 c.in_order.result.1
mine g m c = order-asks _ _ c.args.a c.args.b _ _ (ordered g m c) c.requires

-- both halves may be asked for
asked : (g : Over) (m : ℕ) (c : combine_halves-After-cut-c g m)
    → Asks g.O.Pointwise.OP (g.S.Store.state c.cut-c.new.store) c.cut-c.result.a_low c.cut-c.result.b_low
    × Asks g.O.Pointwise.OP (g.S.Store.state c.cut-c.new.store) c.cut-c.result.a_high c.cut-c.result.b_high
asked g m c =
    parts_asked (g.met.S.Store.sound c.args.store.now) c.requires.asks c.cut-c.ensures.reads.grows c.cut-c.ensures.cofactors

pub combine_by-found-requires : goal.combine_by-found-requires
combine_by-found-requires g m c = record {
  op = rw c.OP-op.ensures g.O.Pointwise.pointwise;
  asks = rw c.OP-op.ensures (mine g m (goal.at.combine_by-found-requires g m c).After-in_order);
}

pub combine_by-combine_halves-requires : goal.combine_by-combine_halves-requires
combine_by-combine_halves-requires g m c κs within =
    let s = g.S.Store.state c.args.store.now in let t = g.S.Store.state c.found.new.store in let grows = c.found.ensures.reads.grows in
    let x = c.in_order.result.0 in let y = c.in_order.result.1 in
    let at = (goal.at.combine_by-combine_halves-requires g m c).After-in_order in let asks = mine g m at in
    let same = top_later s t x y grows asks.first asks.second in
    let top = order-top g.O.Pointwise.OP s c.args.a c.args.b x y (ordered g m at) in (
      omega (arith, same, top, c.decreases),
      (within.0, (within.1, (asks_later g.O.Pointwise.OP s t x y grows asks, c.in-None.ensures.none))),
    )

pub combine_by-returns-in-Some : goal.combine_by-returns-in-Some
combine_by-returns-in-Some g m c =
    let at = (goal.at.combine_by-returns-in-Some g m c).After-in_order in
    let x = c.in_order.result.0 in let y = c.in_order.result.1 in
    rw (← order-same g.O.Pointwise.OP (g.S.Store.state c.args.store.now) c.args.a c.args.b x y (ordered g m at))
    (rw c.OP-op.ensures at c.in-Some.ensures.some)

pub combine_by-returns-in-None : goal.combine_by-returns-in-None
combine_by-returns-in-None g m c =
    let op = g.O.Pointwise.OP in let s = g.S.Store.state c.args.store.now in let t = g.S.Store.state c.found.new.store in
    let x = c.in_order.result.0 in let y = c.in_order.result.1 in
    let at = (goal.at.combine_by-returns-in-None g m c).After-in_order in let asks = mine g m at in
    let same = combine_later (test_of op) s t x y c.found.ensures.reads.grows asks.first asks.second
    ∙ order-same op s c.args.a c.args.b x y (ordered g m at) in
    Builds-after _ _ _ _ _ c.found.ensures.reads (rw same at c.combine_halves.ensures)

pub combine_halves-combine_by-requires : goal.combine_halves-combine_by-requires
combine_halves-combine_by-requires g m c κs within =
    let asks = c.requires.asks in let cut = c.cut-c.ensures in
    let falls = low_falls cut.reads.grows asks.first asks.second cut.cofactors in (
      omega (arith, falls, c.decreases),
      (within.0, (within.1, (asked g m (goal.at.combine_halves-combine_by-requires g m c).After-cut-c).0)),
    )

pub combine_halves-returns-in_err-lo : goal.combine_halves-returns-in_err-lo
combine_halves-returns-in_err-lo g m c = failed c.from_residual.ensures.0 c.cut-c.ensures.reads c.in_err-lo.ensures

pub combine_halves-combine_by-requires-2 : goal.combine_halves-combine_by-requires-2
combine_halves-combine_by-requires-2 g m c κs within =
    let asks = c.requires.asks in let cut = c.cut-c.ensures in let one = c.in_ok-lo.ensures in
    let high = (asked g m (goal.at.combine_halves-combine_by-requires-2 g m c).After-cut-c).1 in
    let falls = high_falls (then_call cut.reads one).grows asks.first asks.second (cofactors_later one.grows cut.cofactors) in (
      omega (arith, falls, c.decreases),
      (within.0, (within.1, asks_later g.O.Pointwise.OP _ _ _ _ one.grows high)),
    )

pub combine_halves-returns-in_err-hi : goal.combine_halves-returns-in_err-hi
combine_halves-returns-in_err-hi g m c =
    failed c.from_residual-in_err-hi.ensures.0 (then_call c.cut-c.ensures.reads c.in_ok-lo.ensures) c.in_err-hi.ensures

pub combine_halves-finish-requires : goal.combine_halves-finish-requires
combine_halves-finish-requires g m c =
    let cut = c.cut-c.ensures in
    let all = halves_finish c.requires.asks cut.cofactors cut.reads
    (asked g m (goal.at.combine_halves-finish-requires g m c).After-cut-c).1 c.in_ok-lo.ensures c.in_ok-hi.ensures in
    record {
      op = rw c.OP-op.ensures g.O.Pointwise.pointwise;
      asks = rw c.OP-op.ensures all.asks;
      cut = all.cut;
      low = rw c.OP-op.ensures all.low;
      high = rw c.OP-op.ensures all.high;
    }

pub combine_halves-returns : goal.combine_halves-returns
combine_halves-returns g m c =
    let cut = c.cut-c.ensures in
    let all = halves_finish c.requires.asks cut.cofactors cut.reads (asked g m (goal.at.combine_halves-returns g m c).After-cut-c).1
    c.in_ok-lo.ensures c.in_ok-hi.ensures in
    all.given (rw c.OP-op.ensures at c.finish.ensures)
