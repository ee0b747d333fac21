use Rattle.std.proofs.Common.{◌≤◌, ◌∙◌, List, All, length, sym, ap, arith, true≢false}
use Rattle.std.proofs.lemmas.Option.{IfSome_then}
use Rattle.std.proofs.lemmas.List.Elements.{length_all_zip}
use Rattle.job_deques.specs.declared.seat.Seat.{Seat}
use Rattle.job_deques.specs.Seats.{Layout, StaysAtWork}
use Rattle.job_deques.specs.Hands.{AreTaking, AreWhole, HasNoWay, numbers_below, pushed_to}
use Rattle.job_deques.specs.Deals.{layout}
use Rattle.job_deques.proofs.Listed.{if_none, if_none_then, if_some}
use Rattle.job_deques.proofs.Once.{stay_places, stay_taking, stay_whole, stay_bare, all_below, dealt_once, whole_once, whole_over, few_once}
use Rattle.job_deques.proofs.deques.DequesDealing.take.Goals as goal

settled : (c : goal.After-look) → AreWhole (layout c.args.self.now) c.settle.new.seats
settled c = c.settle.ensures.whole (layout c.args.self.now)
    (record { of = c.requires.seats; whole = c.are_whole.ensures.0 c.if-are_whole.true ∙ ap numbers_below c.requires.total })

after : (c : goal.After-look) → AreWhole (layout c.args.self.now) c.look.new.seats
after c = stay_whole (layout c.args.self.now) c.settle.new.seats c.look.new.seats c.look.ensures.same (settled c)

bare : (c : goal.After-look) → All HasNoWay c.look.new.seats
bare c = stay_bare c.settle.new.seats c.look.new.seats c.look.ensures.same c.settle.ensures.bare

pub returns-then-are_whole-clause-of : goal.returns-then-are_whole-clause-of
returns-then-are_whole-clause-of c = record { total = c.requires.total; seats = (after c).of }

pub returns-then-are_whole-clause-shares : goal.returns-then-are_whole-clause-shares
returns-then-are_whole-clause-shares c =
    stay_places c.settle.new.seats c.look.new.seats c.look.ensures.same ∙ c.settle.ensures.places

pub returns-then-are_whole-clause-below : goal.returns-then-are_whole-clause-below
returns-then-are_whole-clause-below c =
    let l : Layout = layout c.args.self.now in
    IfSome_then c.look.result c.look.ensures.below (λ n below. below l (settled c).of.each (all_below l))

pub returns-then-are_whole-clause-once : goal.returns-then-are_whole-clause-once
returns-then-are_whole-clause-once c =
    let l : Layout = layout c.args.self.now in let seats : List Seat = c.look.new.seats in let now = after c in
    if_some c.look.result (λ x.
    let took = whole_once l x seats now.of.each (bare c) in let all = ap (pushed_to l x) now.whole in
    omega (arith, took, all, dealt_once l x l.count now.of.some))

pub returns-then-are_whole-clause-over : goal.returns-then-are_whole-clause-over
returns-then-are_whole-clause-over c =
    let l : Layout = layout c.args.self.now in let now = after c in
    if_none_then c.look.result c.look.ensures.all
    (λ all whole x. whole_over l c.look.new.seats now (bare c) all x ∙ dealt_once l x l.count now.of.some)

going : (c : goal.After-look-2) → AreTaking (layout c.args.self.now) c.look-2.new.seats
going c = stay_taking c.args.hand.now.seats c.look-2.new.seats c.look-2.ensures.same (layout c.args.self.now) c.requires.seats

pub returns-clause-of : goal.returns-clause-of
returns-clause-of c = record { total = c.requires.total; seats = going c }

pub returns-clause-shares : goal.returns-clause-shares
returns-clause-shares c = stay_places c.args.hand.now.seats c.look-2.new.seats c.look-2.ensures.same

pub returns-clause-below : goal.returns-clause-below
returns-clause-below c =
    let l : Layout = layout c.args.self.now in
    IfSome_then c.look-2.result c.look-2.ensures.below (λ n below. below l c.requires.seats.each (all_below l))

pub returns-clause-once : goal.returns-clause-once
returns-clause-once c =
    let l : Layout = layout c.args.self.now in let old : List Seat = c.args.hand.now.seats in let new : List Seat = c.look-2.new.seats in
    let same = length_all_zip StaysAtWork old new c.look-2.ensures.same in
    let few : length new ≤ 1 = omega (arith, c.len.ensures.value, c.if-len-gt1.false, same) in
    if_some c.look-2.result (λ x. omega (arith, few_once l x new few (going c).each, dealt_once l x l.count (going c).some))

pub returns-clause-over : goal.returns-clause-over
returns-clause-over c =
    let same = stay_places c.args.hand.now.seats c.look-2.new.seats c.look-2.ensures.same in
    if_none c.look-2.result
    (λ whole x. absurd (true≢false (sym (c.are_whole.ensures.1 (sym same ∙ whole)) ∙ c.if-are_whole.false)))
