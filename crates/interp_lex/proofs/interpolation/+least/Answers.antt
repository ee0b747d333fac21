use Rattle.std.proofs.Common.{ℕ, arith, Ok}
use Rattle.node_store.proofs.StoreLaws.{failed, then_call}
use Rattle.set_algebra.proofs.Calls.{call_failed, failed_points, hands_fall}
use Rattle.interp_lex.proofs.LeastStep.{Cut, told, no_ones_gives, no_zeros_gives, looked_gives, kept_result, some_node, cut_at}
use Rattle.interp_lex.proofs.LeastStep.{upper_planned, upper_found, high_asked, high_found, lower_asked, lower_found, low_asked}
use Rattle.interp_lex.proofs.LeastStep.{node}
use Rattle.interp_lex.proofs.interpolation.+least.Goals as goal
use Rattle.interp_lex.proofs.interpolation.+least.Goals.{After-cut-c}
use Rattle.interp_lex.proofs.interpolation.+least.Given.{Over}

at_cut : (g : Over) (t : ℕ) (c : After-cut-c g t)
    → Cut (g.S.Store.state c.args.store.now) (g.S.Store.state c.cut-c.new.store) c.args.zeros c.args.ones c.cut-c.result
at_cut g t c =
    cut_at (g.met.S.Store.sound c.args.store.now) c.requires c.if-zeros-eq0.false c.if-ones-eq0.false c.look.ensures.reads
    c.cut-c.ensures.reads c.cut-c.ensures.cofactors

pub returns-then-ones-eq0 : goal.returns-then-ones-eq0
returns-then-ones-eq0 g t c =
    let sound = g.met.S.Store.sound c.args.store.now in
    told _ _ sound c.requires (Ok (record { 0 = 0 })) c.requires.ready (no_ones_gives _ _ sound c.requires c.if-ones-eq0.true)

pub returns-then-zeros-eq0 : goal.returns-then-zeros-eq0
returns-then-zeros-eq0 g t c =
    let sound = g.met.S.Store.sound c.args.store.now in
    told _ _ sound c.requires (Ok (record { 0 = 1 })) c.requires.ready
    (no_zeros_gives _ _ sound c.requires c.if-zeros-eq0.true c.if-ones-eq0.false)

pub returns-in-Some : goal.returns-in-Some
returns-in-Some g t c =
    let sound = g.met.S.Store.sound c.args.store.now in
    told _ _ sound c.requires (Ok c.in-Some.r) c.requires.ready
    (looked_gives _ _ sound c.requires c.look.ensures.reads c.in-Some.ensures.result)

pub cut-c-requires-clause-some : goal.cut-c-requires-clause-some
cut-c-requires-clause-some g t c =
    some_node _ _ (g.met.S.Store.sound c.args.store.now) c.requires c.if-zeros-eq0.false c.if-ones-eq0.false

pub upper_part-requires-clause-planned : goal.upper_part-requires-clause-planned
upper_part-requires-clause-planned g t c = upper_planned (at_cut g t (goal.at.upper_part-requires-clause-planned g t c).After-cut-c)

pub returns-in_err-upper-clause-result : goal.returns-in_err-upper-clause-result
returns-in_err-upper-clause-result g t c =
    let cut = at_cut g t (goal.at.returns-in_err-upper-clause-result g t c).After-cut-c in
    failed_points c.from_residual.ensures.0 cut.calls.reads c.in_err-upper.ensures.result

pub least-requires : goal.least-requires
least-requires g t c κs within =
    let cut = at_cut g t (goal.at.least-requires g t c).After-cut-c in let k = upper_found cut c.in_ok-upper.ensures.result in
    let next = high_asked cut c.in_ok-upper.ensures.result c.in_ok-upper.ensures.ready in (
      omega (arith, hands_fall _ _ k k.here.0 k.here.1.0 cut.are.top, c.decreases),
      (within.0, (within.1, (next.zeros, (next.ones, (next.disjoint, (next.planned, next.ready)))))),
    )

pub returns-in_err-h-clause-result : goal.returns-in_err-h-clause-result
returns-in_err-h-clause-result g t c =
    let k = upper_found (at_cut g t (goal.at.returns-in_err-h-clause-result g t c).After-cut-c) c.in_ok-upper.ensures.result in
    call_failed k c.from_residual-in_err-h.ensures.0 c.in_err-h.ensures.result

pub lower_part-requires : goal.lower_part-requires
lower_part-requires g t c = lower_asked (at_cut g t (goal.at.lower_part-requires g t c).After-cut-c) c.in_ok-upper.ensures.result
    (g.met.S.Store.sound c.least.new.store) c.in_ok-h.ensures.result c.in_ok-h.ensures.ready

pub returns-in_err-lower-clause-result : goal.returns-in_err-lower-clause-result
returns-in_err-lower-clause-result g t c =
    let k = high_found (at_cut g t (goal.at.returns-in_err-lower-clause-result g t c).After-cut-c) c.in_ok-upper.ensures.result
    (g.met.S.Store.sound c.least.new.store) c.in_ok-h.ensures.result in
    failed_points c.from_residual-in_err-lower.ensures.0 k.reads c.in_err-lower.ensures.result

pub least-requires-2 : goal.least-requires-2
least-requires-2 g t c κs within =
    let cut = at_cut g t (goal.at.least-requires-2 g t c).After-cut-c in
    let k = lower_found cut c.in_ok-upper.ensures.result (g.met.S.Store.sound c.least.new.store) c.in_ok-h.ensures.result
    c.in_ok-lower.ensures.result in
    let next = low_asked cut c.in_ok-upper.ensures.result (g.met.S.Store.sound c.least.new.store) c.in_ok-h.ensures.result
    c.in_ok-lower.ensures.result c.in_ok-lower.ensures.ready in (
      omega (arith, hands_fall _ _ k k.here.0 k.here.1.0 cut.are.top, c.decreases),
      (within.0, (within.1, (next.zeros, (next.ones, (next.disjoint, (next.planned, next.ready)))))),
    )

pub returns-in_err-g-clause-result : goal.returns-in_err-g-clause-result
returns-in_err-g-clause-result g t c =
    let k = lower_found (at_cut g t (goal.at.returns-in_err-g-clause-result g t c).After-cut-c) c.in_ok-upper.ensures.result
    (g.met.S.Store.sound c.least.new.store) c.in_ok-h.ensures.result c.in_ok-lower.ensures.result in
    call_failed k c.from_residual-in_err-g.ensures.0 c.in_err-g.ensures.result

pub grow-requires : goal.grow-requires
grow-requires g t c =
    (node (at_cut g t (goal.at.grow-requires g t c).After-cut-c) c.in_ok-upper.ensures.result
    (g.met.S.Store.sound c.least.new.store) c.in_ok-h.ensures.result c.in_ok-lower.ensures.result
    (g.met.S.Store.sound c.least-2.new.store) c.in_ok-g.ensures.result).asked

pub returns-in_err-r-clause-result : goal.returns-in_err-r-clause-result
returns-in_err-r-clause-result g t c =
    let k = lower_found (at_cut g t (goal.at.returns-in_err-r-clause-result g t c).After-cut-c) c.in_ok-upper.ensures.result
    (g.met.S.Store.sound c.least.new.store) c.in_ok-h.ensures.result c.in_ok-lower.ensures.result in
    failed c.from_residual-in_err-r.ensures.0 (then_call k.reads c.in_ok-g.ensures.result) c.in_err-r.ensures

pub keep-requires : goal.keep-requires
keep-requires g t c =
    kept_result _ _ (g.met.S.Store.sound c.args.store.now) c.requires
    ((node (at_cut g t (goal.at.keep-requires g t c).After-cut-c) c.in_ok-upper.ensures.result
    (g.met.S.Store.sound c.least.new.store) c.in_ok-h.ensures.result c.in_ok-lower.ensures.result
    (g.met.S.Store.sound c.least-2.new.store) c.in_ok-g.ensures.result).given (Ok c.in_ok-r.r) c.in_ok-r.ensures)

pub returns : goal.returns
returns g t c =
    let last = node (at_cut g t (goal.at.returns g t c).After-cut-c) c.in_ok-upper.ensures.result
    (g.met.S.Store.sound c.least.new.store) c.in_ok-h.ensures.result c.in_ok-lower.ensures.result
    (g.met.S.Store.sound c.least-2.new.store) c.in_ok-g.ensures.result in
    rw c.keep.ensures (told _ _ (g.met.S.Store.sound c.args.store.now) c.requires (Ok c.in_ok-r.r) c.in_ok-g.ensures.ready
    (last.given (Ok c.in_ok-r.r) c.in_ok-r.ensures))
