use Rattle.std.proofs.Common.{◌≡◌, ◌<◌, ◌∙◌, ◌++◌, length, set, take, drop, arith, ap}
use Rattle.std.proofs.lemmas.Result.{IfOk-at_ok}
use Rattle.std.proofs.lemmas.Option.{MatchOption-at_some}
use Rattle.std.proofs.lemmas.List.{length-drop, length-set}
use Rattle.job_deques.specs.declared.seat.Seat.{Seat}
use Rattle.job_deques.proofs.Listed.{fits, parted, front_of, set_apart}
use Rattle.job_deques.proofs.Given.{all_seats, at_place, its_owner, took_back}
use Rattle.job_deques.proofs.settle.give_back.Goals as goal

pub split_off-requires : goal.split_off-requires
split_off-requires c = omega (arith, all_seats c.args.seats.now c.requires.0.total c.requires.1.whole, c.requires.1.less)

pub unwrap-seat-requires : goal.unwrap-seat-requires
unwrap-seat-requires c =
    let behind : c.unwrap-rest.result ≡ drop c.args.deque c.args.seats.now = IfOk-at_ok _ c.unwrap-rest.ensures c.split_off.ensures.tail in
    let many = all_seats c.args.seats.now c.requires.0.total c.requires.1.whole in
    c.front_mut.ensures.variant.1 (omega (arith, ap length behind, length-drop c.args.deque c.args.seats.now, many, c.requires.1.less))

pub absorb-requires : goal.absorb-requires
absorb-requires c =
    let xs = c.args.seats.now in let i = c.args.deque in let s = c.unwrap-seat.result.now in
    let behind : c.unwrap-rest.result ≡ drop i xs = IfOk-at_ok _ c.unwrap-rest.ensures c.split_off.ensures.tail in
    let is = front_of xs c.unwrap-rest.result i s behind (MatchOption-at_some _ _ _ c.unwrap-seat.ensures c.front_mut.ensures.value) in
    its_owner c.requires.0 i c.args.way xs s (omega (arith, all_seats xs c.requires.0.total c.requires.1.whole, c.requires.1.less)) is
    (at_place xs c.requires.0.total i s c.requires.1.whole c.requires.1.less is) c.requires.1.way c.requires.1.each

pub unwrap-requires : goal.unwrap-requires
unwrap-requires c =
    let off = c.split_off.ensures in let rest = c.unwrap-rest.result in
    let both = fits c.split_off.result c.args.seats.now rest c.split_off.new.self c.args.deque c.unwrap-rest.ensures off.items off.tail in
    let many = all_seats c.args.seats.now c.requires.0.total c.requires.1.whole in
    let fed : Seat = record c.unwrap-seat.result.now { own = c.absorb.new.self } in
    c.append.ensures.succeeds (omega (arith, both, many, length-set rest 0 fed, c.requires.1.small))

pub returns : goal.returns
returns c l can =
    let xs = c.args.seats.now in let i = c.args.deque in let s = c.unwrap-seat.result.now in let rest = c.unwrap-rest.result in
    let behind : rest ≡ drop i xs = IfOk-at_ok _ c.unwrap-rest.ensures c.split_off.ensures.tail in
    let is = front_of xs rest i s behind (MatchOption-at_some _ _ _ c.unwrap-seat.ensures c.front_mut.ensures.value) in
    let less : i < length xs = omega (arith, all_seats xs l.total can.whole, can.less) in
    let fed : Seat = record s { own = c.absorb.new.self } in
    let e = parted c.split_off.result c.append.result xs rest c.split_off.new.self (set rest 0 fed) c.append.new.self i
    c.unwrap-rest.ensures c.split_off.ensures.items c.split_off.ensures.tail c.unwrap.result c.unwrap.ensures c.append.ensures.items in
    let new : c.append.new.self ≡ set xs i fed = e.1 ∙ (ap (λ l. take i xs ++ set l 0 fed) behind ∙ set_apart xs i fed less) in
    rw new (took_back l i c.args.way xs s c.absorb.new.self less is (at_place xs l.total i s can.whole can.less is)
    can.way c.absorb.ensures.deque c.absorb.ensures.view c.absorb.ensures.within can.each)
