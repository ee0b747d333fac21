use Rattle.std.proofs.Common.{rules, ℕ, arith}
use Rattle.bool_poly.proofs.NodeLemmas.{ActsOnParts, at_node, at_node_later, low_call, high_call, lows_planned, highs_planned, both_grown}
use Rattle.bool_poly.proofs.NodeLemmas.{times, times_after, times_values, times_kept, times_result, node_after, times_acts}
use Rattle.node_store.proofs.StoreLaws.{failed, node_builds, node_parts, node_planned, then_call, then_reads}
use Rattle.bool_poly.proofs.products.+times_var.Goals as goal
use Rattle.bool_poly.proofs.products.+times_var.Goals.{After-look}
use Rattle.bool_poly.proofs.products.+times_var.Given.{Over}

by_parts : (g : Over) (t : ℕ) (c : After-look g t)
    → ActsOnParts (times c.args.var) (g.S.Store.state c.args.store.now) (g.S.Store.state c.look.new.self) c.args.a c.in-Some.n
by_parts g t c = times_acts (at_node_later (g.met.S.Store.sound c.look.new.self) c.node.ensures.reads c.look.ensures.reads
    c.in-Some.ensures.node c.in-Some.ensures.family) c.requires.last c.if-var-n.false c.requires.planned

pub returns-in_default : goal.returns-in_default
returns-in_default g t c = search (times_after, times_values, rules, arith)

pub raised-requires-then-var-n-clause-after : goal.raised-requires-then-var-n-clause-after
raised-requires-then-var-n-clause-after g t c =
    node_after (at_node (g.met.S.Store.sound c.node.new.self) c.node.ensures.reads c.in-Some.ensures.node c.in-Some.ensures.family)
    c.requires.known c.if-var-n.true

pub returns-then-var-n : goal.returns-then-var-n
returns-then-var-n g t c =
    let result = times_after c.args.a c.args.var c.node.ensures.reads c.requires.known c.raised-then-var-n.ensures in
    record { result = result; value = times_values c.args.a c.args.var result }

pub returns-in-Some-look : goal.returns-in-Some-look
returns-in-Some-look g t c =
    let result = times_kept c.args.a c.requires.known c.requires.first c.requires.last (then_reads c.node.ensures.reads
    c.look.ensures.reads) c.in-Some-look.ensures.result in
    record { result = result; value = times_values c.args.a c.args.var result }

pub times_var-requires : goal.times_var-requires
times_var-requires g t c κs within =
    let acts = by_parts g t (goal.at.times_var-requires g t c).After-look in let low = low_call acts.at in
    let same = acts.at.reads.grows.vars in
    (omega (arith, low.0, c.decreases), (within, (low.1, (c.requires.first, (omega (arith, c.requires.last, same), lows_planned acts)))))

pub returns-in_err-lo-clause-result : goal.returns-in_err-lo-clause-result
returns-in_err-lo-clause-result g t c =
    failed c.from_residual.ensures.0 (then_reads c.node.ensures.reads c.look.ensures.reads) c.in_err-lo.ensures.result

pub times_var-requires-2 : goal.times_var-requires-2
times_var-requires-2 g t c κs within =
    let acts = by_parts g t (goal.at.times_var-requires-2 g t c).After-look in let low = c.in_ok-lo.ensures.result in
    let high = high_call acts.at low.grows in
    let same = (then_call acts.at.reads low).grows.vars in (
      omega (arith, high.0, c.decreases),
      (within, (high.1, (c.requires.first, (omega (arith, c.requires.last, same), highs_planned acts low)))),
    )

pub returns-in_err-hi-clause-result : goal.returns-in_err-hi-clause-result
returns-in_err-hi-clause-result g t c = failed c.from_residual-in_err-hi.ensures.0
    (then_call (then_reads c.node.ensures.reads c.look.ensures.reads) c.in_ok-lo.ensures.result) c.in_err-hi.ensures.result

pub grow-requires : goal.grow-requires
grow-requires g t c =
    let may = both_grown (by_parts g t (goal.at.grow-requires g t c).After-look) c.in_ok-lo.ensures.result c.in_ok-hi.ensures.result in
    record { parts = node_parts may; planned = node_planned may (g.met.S.Store.sound c.times_var-2.new.store) }

pub returns-in_err-r-clause-result : goal.returns-in_err-r-clause-result
returns-in_err-r-clause-result g t c = failed c.from_residual-in_err-r.ensures.0 (then_call (then_call (then_reads c.node.ensures.reads
    c.look.ensures.reads) c.in_ok-lo.ensures.result) c.in_ok-hi.ensures.result) c.in_err-r.ensures

pub keep-requires : goal.keep-requires
keep-requires g t c =
    let acts = by_parts g t (goal.at.keep-requires g t c).After-look in
    times_result c.args.a c.requires.known c.requires.first c.requires.last
    (node_builds (both_grown acts c.in_ok-lo.ensures.result c.in_ok-hi.ensures.result) c.in_ok-r.ensures)

pub returns : goal.returns
returns g t c =
    let acts = by_parts g t (goal.at.returns g t c).After-look in
    let result = node_builds (both_grown acts c.in_ok-lo.ensures.result c.in_ok-hi.ensures.result) c.in_ok-r.ensures in
    rw c.keep.ensures (record { result = result; value = times_values c.args.a c.args.var result })
