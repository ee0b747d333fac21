use Rattle.std.proofs.Common.{arith}
use Rattle.lattice.proofs.Diagrams.{weight_is}
use Rattle.cert_check.proofs.LinesRead.{factor_within, factors_fall, factors_more, factors_whole}
use Rattle.cert_check.proofs.terms.product_of.Goals as goal

pub returns-then-place-least : goal.returns-then-place-least
returns-then-place-least c =
    let so_far = rw (c.in-Some.is, c.split_first.ensures.first) at c.loop-rest.invariant in
    factors_fall _ _ _ _ _ _ _ so_far c.place_of-place.ensures c.if-place-least.true

pub overflow_sub-product : goal.overflow_sub-product
overflow_sub-product c =
    let so_far = rw (c.in-Some.is, c.split_first.ensures.first) at c.loop-rest.invariant in
    omega (arith, factor_within _ _ _ _ _ _ _ so_far c.place_of-place.ensures)

pub overflow_sub-product-in-Some : goal.overflow_sub-product-in-Some
overflow_sub-product-in-Some c =
    let so_far = rw (c.in-Some.is, c.split_first.ensures.first) at c.loop-rest.invariant in
    omega (arith, factor_within _ _ _ _ _ _ _ so_far c.place_of-place.ensures)

pub overflow_add-least : goal.overflow_add-least
overflow_add-least c =
    let so_far = rw (c.in-Some.is, c.split_first.ensures.first) at c.loop-rest.invariant in
    omega (arith, factor_within _ _ _ _ _ _ _ so_far c.place_of-place.ensures)

pub loop-rest-preserved : goal.loop-rest-preserved
loop-rest-preserved c =
    let so_far = rw (c.in-Some.is, c.split_first.ensures.first) at c.loop-rest.invariant in
    factors_more _ _ _ _ _ _ _ so_far c.place_of-place.ensures _ c.if-place-least.false (weight_is _ (omega arith))

pub returns : goal.returns
returns c = factors_whole _ _ _ _ (rw c.in_default.is at c.loop-rest.invariant)
