use Rattle.std.proofs.Common.{◌∙◌, ◌∷◌, [], length, arith, sym, ap, subst, length-append}
use Rattle.job_deques.specs.Dealt.{AreFresh}
use Rattle.job_deques.proofs.Made.{fresh_more}
use Rattle.job_deques.proofs.make.make_fresh.Goals as goal

pub loop-at-preserved : goal.loop-at-preserved
loop-at-preserved c =
    let seats = c.loop-at.seats.items in let s = c.in_ok-make_seat.field-0 in let items = c.in_ok-push.ensures.items in
    let made = c.in_ok-make_seat.ensures in record {
      many = omega (arith, ap length items, length-append seats (s ∷ []), c.loop-at.invariant.many);
      fresh = subst AreFresh (sym items)
          (fresh_more seats s c.loop-at.invariant.fresh (made.at ∙ sym c.loop-at.invariant.many, made.own, made.ways));
    }
