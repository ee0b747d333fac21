use Rattle.std.proofs.Common.{◌≡◌, ◌∙◌, List, take, drop, sym, ap, arith}
use Rattle.std.proofs.lemmas.Result.{IfOk-at_ok}
use Rattle.std.proofs.lemmas.List.{length-take, length-drop, take-append-drop, map-append}
use Rattle.std.proofs.lemmas.List.Elements.{All-take, All-drop}
use Rattle.std.proofs.lemmas.List.Sums.{sum_by-take-drop}
use Rattle.job_deques.specs.declared.seat.Seat.{Seat}
use Rattle.job_deques.specs.Seats.{Layout, IsTaking, took}
use Rattle.job_deques.specs.Hands.{AreTaking, IsUnused, places}
use Rattle.job_deques.specs.Deals.{layout}
use Rattle.job_deques.proofs.Given.{length-numbers}
use Rattle.job_deques.proofs.Made.{taking_part}
use Rattle.job_deques.proofs.deques.DequesDealing.halve.Goals as goal

pub returns-clause-of : goal.returns-clause-of
returns-clause-of c =
    let l : Layout = layout c.args.self.now in let xs : List Seat = c.args.hand.seats in let n = c.div_ceil-half.result in
    let of = c.requires.of.seats in let fresh = c.requires.fresh in
    let front : c.split_off.new.self ≡ take n xs = IfOk-at_ok _ c.unwrap-seats.ensures c.split_off.ensures.items in
    let back : c.unwrap-seats.result ≡ drop n xs = IfOk-at_ok _ c.unwrap-seats.ensures c.split_off.ensures.tail in
    let first : AreTaking l (take n xs) = taking_part l xs (take n xs) of (omega (arith, length-take n xs))
    (All-take (IsTaking l) n xs of.each) (All-take (IsUnused l) n xs fresh) in
    let second : AreTaking l (drop n xs) = taking_part l xs (drop n xs) of (omega (arith, length-drop n xs))
    (All-drop (IsTaking l) n xs of.each) (All-drop (IsUnused l) n xs fresh) in (
      record { total = c.requires.of.total; seats = rw front first },
      record { total = c.requires.of.total; seats = rw back second },
    )

pub returns-clause-took : goal.returns-clause-took
returns-clause-took c x =
    let xs : List Seat = c.args.hand.seats in let n = c.div_ceil-half.result in
    let front : c.split_off.new.self ≡ take n xs = IfOk-at_ok _ c.unwrap-seats.ensures c.split_off.ensures.items in
    let back : c.unwrap-seats.result ≡ drop n xs = IfOk-at_ok _ c.unwrap-seats.ensures c.split_off.ensures.tail in
    rw (front, back) (sum_by-take-drop (λ (s : Seat). took s x) xs n)

pub returns-clause-shares : goal.returns-clause-shares
returns-clause-shares c =
    let xs : List Seat = c.args.hand.seats in let n = c.div_ceil-half.result in
    let front : c.split_off.new.self ≡ take n xs = IfOk-at_ok _ c.unwrap-seats.ensures c.split_off.ensures.items in
    let back : c.unwrap-seats.result ≡ drop n xs = IfOk-at_ok _ c.unwrap-seats.ensures c.split_off.ensures.tail in
    rw (front, back) (sym (map-append (λ (s : Seat). s.at) (take n xs) (drop n xs)) ∙ ap places (take-append-drop n xs))

pub returns-clause-few : goal.returns-clause-few
returns-clause-few c = omega (arith, c.requires.of.seats.few, c.requires.of.total, length-numbers c.args.self.now.total)
