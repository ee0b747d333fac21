use Rattle.std.proofs.Common.{Some, None, IfNone, arith, sym}
use Rattle.std.proofs.lemmas.Option.{IfSome_then}
use Rattle.job_deques.specs.Rule.{TookAll}
use Rattle.job_deques.specs.Seats.{own_view}
use Rattle.job_deques.proofs.Seated.{more, own_used, own_same, stays_on}
use Rattle.job_deques.proofs.seat.Seat.take.Goals as goal

pub returns-in-Some-clause-same : goal.returns-in-Some-clause-same
returns-in-Some-clause-same c =
    let own = c.args.self.now.own in let rule = c.in-Some.ensures.rule in
    let m = more c.in-Some.number (own_view own) (own_view c.pop.new.self) rule in
    own_used c.args.self.now c.pop.new.self c.in-Some.ensures.deque m.0 m.1 (λ _. rule.1)

pub returns-in-Some-clause-below : goal.returns-in-Some-clause-below
returns-in-Some-clause-below c l h below =
    let m = more c.in-Some.number (own_view c.args.self.now.own) (own_view c.pop.new.self) c.in-Some.ensures.rule in
    below c.args.self.now.at c.in-Some.number h.at (rw (sym h.pushed) m.3)

pub returns-in-Some-clause-some : goal.returns-in-Some-clause-some
returns-in-Some-clause-some c x =
    let m = more c.in-Some.number (own_view c.args.self.now.own) (own_view c.pop.new.self) c.in-Some.ensures.rule in omega (arith, m.2 x)

pub returns-clause-same : goal.returns-clause-same
returns-clause-same c =
    stays_on (own_same c.args.self.now c.pop.new.self c.in_default.ensures.deque c.in_default.ensures.rule.0) c.steal.ensures.same

pub returns-clause-below : goal.returns-clause-below
returns-clause-below c =
    let same = own_same c.args.self.now c.pop.new.self c.in_default.ensures.deque c.in_default.ensures.rule.0 in
    IfSome_then c.steal.result c.steal.ensures.below (λ n p l h below. p l (same.taking l h) below)

pub returns-clause-all : goal.returns-clause-all
returns-clause-all c =
    let all : TookAll (own_view c.steal.new.self.own) = rw (c.steal.ensures.own, c.in_default.ensures.rule.0) c.in_default.ensures.rule.1 in
    elim c.steal.result as (λ r. IfNone r (TookAll (own_view c.steal.new.self.own))) [ Some n ↦ tt | None ↦ all ]
