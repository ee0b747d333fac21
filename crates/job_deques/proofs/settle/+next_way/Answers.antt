use Rattle.std.proofs.Common.{◌≡◌, length, set, refl, arith}
use Rattle.std.proofs.lemmas.Option.{IfSome_then}
use Rattle.std.proofs.lemmas.List.{length-set}
use Rattle.job_deques.proofs.Listed.{fits, opened, first_is}
use Rattle.job_deques.proofs.Given.{gave_first, gave_later}
use Rattle.job_deques.proofs.settle.+next_way.Goals as goal

pub returns-in-Some-clause-some : goal.returns-in-Some-clause-some
returns-in-Some-clause-some t c =
    let s = c.in_ok-first.first.now in let gave = c.in-Some.ensures in
    let many : c.len.result ≡ length c.give.new.self.ways.items = omega (arith, c.len.ensures, c.give.new.self.ways.ok.0) in
    rw (first_is c.args.seats.now s (c.in_ok-first.ensures.variant.0 refl) c.in_ok-first.ensures.value, many)
    (gave_first s c.give.new.self c.in-Some.way gave.ways gave.own gave.at _)

pub unwrap-requires : goal.unwrap-requires
unwrap-requires t c =
    let whole = set c.args.seats.now 0 c.give.new.self in let off = c.split_off.ensures in
    let both = fits c.split_off.result whole c.unwrap-rest.result c.split_off.new.self 1 c.unwrap-rest.ensures off.items off.tail in
    c.append.ensures.succeeds
    (omega (arith, both, c.next_way-found.ensures.many, length-set c.args.seats.now 0 c.give.new.self, c.requires))

pub returns-clause-some : goal.returns-clause-some
returns-clause-some t c =
    let s = c.in_ok-first.first.now in
    let e = opened c.split_off.result c.append.result c.args.seats.now c.unwrap-rest.result c.split_off.new.self c.next_way-found.new.seats
    c.append.new.self s c.give.new.self (c.in_ok-first.ensures.variant.0 refl) c.in_ok-first.ensures.value
    c.unwrap-rest.ensures c.split_off.ensures.items c.split_off.ensures.tail c.unwrap.result c.unwrap.ensures c.append.ensures.items in
    IfSome_then c.next_way-found.result c.next_way-found.ensures.some
    (λ r gave. rw (e.0, e.1) (gave_later s c.give.new.self _ _ r.0 r.1 c.in_default.ensures.none gave))
