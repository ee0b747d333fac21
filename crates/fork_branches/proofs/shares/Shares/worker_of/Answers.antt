use Rattle.std.proofs.Common.{refl}
use Rattle.fork_branches.specs.Work.{lists_of, numbers_of}
use Rattle.fork_branches.proofs.Shared.{first-with_first, found-with_first, none-with_first}
use Rattle.fork_branches.proofs.shares.Shares.worker_of.Goals as goal

pub returns-then-has-clause-some : goal.returns-then-has-clause-some
returns-then-has-clause-some c =
    rw (← c.self.view_is) (first-with_first c.args.number c.self.inside.rest.items c.self.inside.crew c.self.invariant.1
    (rw c.as_slice.ensures.value at (c.if-has.ensures.yes refl)))

pub returns-clause-some : goal.returns-clause-some
returns-clause-some c =
    let rest = numbers_of c.self.inside.rest.items in let lists = lists_of c.self.inside.crew in
    rw (← c.self.view_is) (found-with_first c.place_of.result c.args.number rest lists c.place_of.ensures.some)

pub returns-clause-none : goal.returns-clause-none
returns-clause-none c =
    rw (← c.self.view_is) (none-with_first c.place_of.result c.args.number c.self.inside.rest.items c.self.inside.crew
    (rw c.as_slice.ensures.value at (c.if-has.ensures.no refl)) c.place_of.ensures.none)
