use Rattle.std.proofs.Common.{◌≡◌, ◌∷◌, ℕ, List, All, set, refl, subst, arith}
use Rattle.std.proofs.lemmas.Option.{IfSome_then}
use Rattle.std.proofs.lemmas.List.Elements.{length_all_zip, All-cons}
use Rattle.std.proofs.lemmas.List.{length-set}
use Rattle.job_deques.specs.declared.seat.Seat.{Seat}
use Rattle.job_deques.specs.Rule.{TookAll}
use Rattle.job_deques.specs.Seats.{IsTaking, StaysAtWork, own_view}
use Rattle.job_deques.proofs.Listed.{fits, opened, first_set, all_behind, if_none_then}
use Rattle.job_deques.proofs.Seated.{stays}
use Rattle.job_deques.proofs.look.+look.Goals as goal

pub returns-in-Some-clause-same : goal.returns-in-Some-clause-same
returns-in-Some-clause-same t c = first_set StaysAtWork stays c.args.seats.now c.in_ok-first.first.now c.take.new.self
    (c.in_ok-first.ensures.variant.0 refl) c.in_ok-first.ensures.value c.in-Some.ensures.same

pub unwrap-requires : goal.unwrap-requires
unwrap-requires t c =
    let whole = set c.args.seats.now 0 c.take.new.self in let off = c.split_off.ensures in
    let both = fits c.split_off.result whole c.unwrap-rest.result c.split_off.new.self 1 c.unwrap-rest.ensures off.items off.tail in
    let same = length_all_zip StaysAtWork c.unwrap-rest.result c.look-found.new.seats c.look-found.ensures.same in
    c.append.ensures.succeeds (omega (arith, both, same, length-set c.args.seats.now 0 c.take.new.self, c.requires))

put_together : (t : ℕ) (c : goal.After-drop-rest t)
    → (c.args.seats.now ≡ c.in_ok-first.first.now ∷ c.unwrap-rest.result) × (c.append.new.self ≡ c.take.new.self ∷ c.look-found.new.seats)
put_together t c = opened c.split_off.result c.append.result c.args.seats.now c.unwrap-rest.result c.split_off.new.self
    c.look-found.new.seats c.append.new.self c.in_ok-first.first.now c.take.new.self (c.in_ok-first.ensures.variant.0 refl)
    c.in_ok-first.ensures.value
    c.unwrap-rest.ensures c.split_off.ensures.items c.split_off.ensures.tail c.unwrap.result c.unwrap.ensures c.append.ensures.items

pub returns-clause-same : goal.returns-clause-same
returns-clause-same t c =
    let e = put_together t c in
    rw (e.0, e.1) (c.in_default.ensures.same, c.look-found.ensures.same)

pub returns-clause-below : goal.returns-clause-below
returns-clause-below t c =
    let s = c.in_ok-first.first.now in let rest = c.unwrap-rest.result in
    let e = put_together t c in
    IfSome_then c.look-found.result c.look-found.ensures.below
    (λ n p l all below.
    let here = subst (λ (xs : List Seat). All (IsTaking l) xs) e.0 all in p l (all_behind (IsTaking l) s rest here) below)

pub returns-clause-all : goal.returns-clause-all
returns-clause-all t c =
    let e = put_together t c in
    if_none_then c.look-found.result c.look-found.ensures.all
    (λ all. rw e.1 (All-cons (λ (s : Seat). TookAll (own_view s.own)) c.take.new.self c.look-found.new.seats c.in_default.ensures.all all))
