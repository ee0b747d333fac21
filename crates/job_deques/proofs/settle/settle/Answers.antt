use Rattle.std.proofs.Common.{◌∙◌, arith}
use Rattle.job_deques.proofs.Given.{all_seats, can_take_back, gave_back}
use Rattle.job_deques.proofs.settle.settle.Goals as goal

pub next_way-requires : goal.next_way-requires
next_way-requires c =
    let now = c.loop-deque.invariant.whole c.requires.0 c.requires.1 in
    omega (arith, all_seats c.loop-deque.seats c.requires.0.total now.whole, now.of.small)

pub give_back-requires : goal.give_back-requires
give_back-requires c =
    let l = c.requires.0 in
    (l, can_take_back l c.in-Some.deque c.in-Some.way _ _ (c.loop-deque.invariant.whole l c.requires.1) c.in-Some.ensures.some)

pub loop-deque-smaller : goal.loop-deque-smaller
loop-deque-smaller c =
    let l = c.requires.0 in let gave = c.in-Some.ensures.some in
    let now = c.loop-deque.invariant.whole l c.requires.1 in
    let back = c.give_back.ensures l (can_take_back l c.in-Some.deque c.in-Some.way _ _ now gave) in
    omega (arith, gave.fewer, back.same)

pub loop-deque-preserved : goal.loop-deque-preserved
loop-deque-preserved c =
    let j = c.in-Some.deque in let w = c.in-Some.way in let gave = c.in-Some.ensures.some in
    let now = c.loop-deque.invariant.whole c.requires.0 c.requires.1 in
    let back = c.give_back.ensures c.requires.0 (can_take_back c.requires.0 j w _ _ now gave) in record {
      whole = λ l before. let whole = c.loop-deque.invariant.whole l before in
          gave_back l j w _ _ _ whole gave (c.give_back.ensures l (can_take_back l j w _ _ whole gave));
      places = back.places ∙ (gave.places ∙ c.loop-deque.invariant.places);
      took = λ x. omega (arith, back.took x, gave.took x, c.loop-deque.invariant.took x);
    }
