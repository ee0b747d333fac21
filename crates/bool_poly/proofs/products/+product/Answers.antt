use Rattle.std.proofs.Common.{rules, ℕ, arith, Ok, refl}
use Rattle.lattice.specs.Words.{answer}
use Rattle.lattice.specs.declared.op.Op.TheVariants.{Product}
use Rattle.node_store.proofs.StoreLaws.{allowed_all, given_kept, handles, kept_given, then_reads}
use Rattle.set_algebra.proofs.Levels.{cofactors_before}
use Rattle.set_algebra.proofs.Calls.{call_failed, hands_fall}
use Rattle.bool_poly.proofs.Steps.{ProductCut, after_both, after_first, after_product, after_second, after_upper, at_first, at_second}
use Rattle.bool_poly.proofs.Steps.{product_asked, product_cut, product_node, product_values, sum_asked, swap_given, swap_planned}
use Rattle.bool_poly.proofs.products.+product.Goals as goal
use Rattle.bool_poly.proofs.products.+product.Goals.{After-cut-c}
use Rattle.bool_poly.proofs.products.+product.Given.{Over}

at_cut : (g : Over) (m : ℕ) (c : After-cut-c g m)
    → ProductCut (g.S.Store.state c.args.store.now) (g.S.Store.state c.cut-c.new.store) c.args.a c.args.b c.cut-c.result
at_cut g m c =
    product_cut (g.met.S.Store.sound c.args.store.now) c.requires.a c.requires.b c.if-a-eq0.false c.if-b-eq1.false
    c.if-b-eq0.false c.if-a-eq1.false c.requires.planned (then_reads c.look.ensures.reads c.cut-c.ensures.reads)
    (cofactors_before c.look.ensures.reads c.requires.a c.requires.b c.cut-c.ensures.cofactors)

pub returns-then-a-eq0 : goal.returns-then-a-eq0
returns-then-a-eq0 g m c =
    let result = at_first c.args.a c.args.b (g.met.S.Store.sound c.args.store.now) c.requires.a c.requires.b c.then-a-eq0.either in
    record { result = result; value = product_values c.args.a c.args.b result }

pub returns-then-b-eq0 : goal.returns-then-b-eq0
returns-then-b-eq0 g m c =
    let result = at_second c.args.a c.args.b (g.met.S.Store.sound c.args.store.now) c.requires.a c.requires.b c.then-b-eq0.either in
    record { result = result; value = product_values c.args.a c.args.b result }

pub product-requires : goal.product-requires
product-requires g m c κs within = grind (arith, swap_planned, within)

pub returns-then-b-a : goal.returns-then-b-a
returns-then-b-a g m c = search (swap_given, product_values, rules)

pub returns-in-Some : goal.returns-in-Some
unfolding answer
returns-in-Some g m c =
    let result = kept_given (handles Product refl refl c.requires.a c.requires.b) c.look.ensures.reads c.in-Some.ensures.result in
    record { result = result; value = product_values c.args.a c.args.b result }

pub product-requires-2 : goal.product-requires-2
product-requires-2 g m c κs within =
    let k = at_cut g m (goal.at.product-requires-2 g m c).After-cut-c in let at = k.calls.here in
    (omega (arith, hands_fall _ _ k.calls at.0 at.1.1.0 k.are.top, c.decreases), (within, product_asked _ k.calls at.0 at.1.1.0))

pub returns-in_err-lo-clause-result : goal.returns-in_err-lo-clause-result
returns-in_err-lo-clause-result g m c =
    let k = at_cut g m (goal.at.returns-in_err-lo-clause-result g m c).After-cut-c in
    call_failed k.calls c.from_residual.ensures.0 c.in_err-lo.ensures.result

pub sum-requires : goal.sum-requires
sum-requires g m c =
    let k = after_product (at_cut g m (goal.at.sum-requires g m c).After-cut-c) c.in_ok-lo.ensures.result in
    sum_asked k k.here.1.0 k.here.1.1.0

pub returns-in_err-a_sum-clause-result : goal.returns-in_err-a_sum-clause-result
returns-in_err-a_sum-clause-result g m c =
    let k = after_product (at_cut g m (goal.at.returns-in_err-a_sum-clause-result g m c).After-cut-c) c.in_ok-lo.ensures.result in
    call_failed k c.from_residual-in_err-a_sum.ensures.0 c.in_err-a_sum.ensures

pub sum-requires-2 : goal.sum-requires-2
sum-requires-2 g m c =
    let cut = at_cut g m (goal.at.sum-requires-2 g m c).After-cut-c in
    let k = after_first cut c.in_ok-lo.ensures.result c.in_ok-a_sum.ensures in sum_asked k k.here.1.1.1.1.0 k.here.1.1.1.1.1.0

pub returns-in_err-b_sum-clause-result : goal.returns-in_err-b_sum-clause-result
returns-in_err-b_sum-clause-result g m c =
    let cut = at_cut g m (goal.at.returns-in_err-b_sum-clause-result g m c).After-cut-c in
    call_failed (after_first cut c.in_ok-lo.ensures.result c.in_ok-a_sum.ensures)
    c.from_residual-in_err-b_sum.ensures.0 c.in_err-b_sum.ensures

pub product-requires-3 : goal.product-requires-3
product-requires-3 g m c κs within =
    let cut = at_cut g m (goal.at.product-requires-3 g m c).After-cut-c in
    let k = after_second cut c.in_ok-lo.ensures.result c.in_ok-a_sum.ensures c.in_ok-b_sum.ensures in
    let falls = hands_fall _ _ k k.here.1.0 k.here.0 cut.are.top in
    (omega (arith, falls, c.decreases), (within, product_asked _ k k.here.1.0 k.here.0))

pub returns-in_err-both-clause-result : goal.returns-in_err-both-clause-result
returns-in_err-both-clause-result g m c =
    let cut = at_cut g m (goal.at.returns-in_err-both-clause-result g m c).After-cut-c in
    call_failed (after_second cut c.in_ok-lo.ensures.result c.in_ok-a_sum.ensures c.in_ok-b_sum.ensures)
    c.from_residual-in_err-both.ensures.0 c.in_err-both.ensures.result

pub sum-requires-3 : goal.sum-requires-3
sum-requires-3 g m c =
    let cut = at_cut g m (goal.at.sum-requires-3 g m c).After-cut-c in
    let k = after_both cut c.in_ok-lo.ensures.result c.in_ok-a_sum.ensures c.in_ok-b_sum.ensures c.in_ok-both.ensures.result in
    sum_asked k k.here.1.1.1.0 k.here.0

pub returns-in_err-hi-clause-result : goal.returns-in_err-hi-clause-result
returns-in_err-hi-clause-result g m c =
    let cut = at_cut g m (goal.at.returns-in_err-hi-clause-result g m c).After-cut-c in
    call_failed (after_both cut c.in_ok-lo.ensures.result c.in_ok-a_sum.ensures c.in_ok-b_sum.ensures c.in_ok-both.ensures.result)
    c.from_residual-in_err-hi.ensures.0 c.in_err-hi.ensures

pub grow-requires : goal.grow-requires
grow-requires g m c =
    (product_node (at_cut g m (goal.at.grow-requires g m c).After-cut-c) c.in_ok-lo.ensures.result c.in_ok-a_sum.ensures
    c.in_ok-b_sum.ensures c.in_ok-both.ensures.result c.in_ok-hi.ensures (g.met.S.Store.sound c.sum-3.new.store)).asked

pub returns-in_err-r-clause-result : goal.returns-in_err-r-clause-result
returns-in_err-r-clause-result g m c =
    let cut = at_cut g m (goal.at.returns-in_err-r-clause-result g m c).After-cut-c in
    call_failed (after_upper cut c.in_ok-lo.ensures.result c.in_ok-a_sum.ensures c.in_ok-b_sum.ensures c.in_ok-both.ensures.result
    c.in_ok-hi.ensures) c.from_residual-in_err-r.ensures.0 c.in_err-r.ensures

pub keep-requires : goal.keep-requires
unfolding answer
keep-requires g m c =
    let node = product_node (at_cut g m (goal.at.keep-requires g m c).After-cut-c) c.in_ok-lo.ensures.result c.in_ok-a_sum.ensures
    c.in_ok-b_sum.ensures c.in_ok-both.ensures.result c.in_ok-hi.ensures (g.met.S.Store.sound c.sum-3.new.store) in
    given_kept (handles Product refl refl c.requires.a c.requires.b) (allowed_all Product refl (λ e. cc) (λ e. cc) (λ e. cc))
    (node.given (Ok c.in_ok-r.r) c.in_ok-r.ensures)

pub returns : goal.returns
returns g m c =
    let node = product_node (at_cut g m (goal.at.returns g m c).After-cut-c) c.in_ok-lo.ensures.result c.in_ok-a_sum.ensures
    c.in_ok-b_sum.ensures c.in_ok-both.ensures.result c.in_ok-hi.ensures (g.met.S.Store.sound c.sum-3.new.store) in
    let result = node.given (Ok c.in_ok-r.r) c.in_ok-r.ensures in
    rw c.keep.ensures (record { result = result; value = product_values c.args.a c.args.b result })
