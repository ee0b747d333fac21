use Rattle.std.proofs.Common.{◌≡◌, ◌++◌, ◌∷◌, ◌∙◌, List, ap, sym, true≢false}
use Rattle.job_deques.specs.declared.seat.Seat.{Seat}
use Rattle.job_deques.specs.Hands.{places, numbers_below}
use Rattle.job_deques.proofs.Given.{next_number}
use Rattle.job_deques.proofs.whole.are_whole.Goals as goal

pub returns-then-seat-next : goal.returns-then-seat-next
returns-then-seat-next c =
    let n = c.loop-seat.next in let s = c.in-Some.seat.now in
    let on : numbers_below n ++ s.at ∷ places c.next.new.self ≡ places c.args.seats.now =
    ap (λ (l : List Seat). numbers_below n ++ places l) (sym c.in-Some.ensures.steps) ∙ c.loop-seat.invariant.places in (
      λ no. absurd (true≢false (sym no)),
      λ whole. absurd (c.if-seat-next.true (next_number n c.args.total s.at (places c.next.new.self) (on ∙ whole))),
    )
