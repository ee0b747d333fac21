use Rattle.std.proofs.Common.{◌-◌, ap}
use Rattle.node_store.proofs.StoreLaws.{MayHoldAny-later, Grows-trans}
use Rattle.thread_tests.proofs.TestedStores.{over_later, constant_over, any_grown, over_grown}
use Rattle.thread_tests.proofs.of_unique_table.+numbered.Goals as goal

pub returns-then-count-eq0-clause-over : goal.returns-then-count-eq0-clause-over
returns-then-count-eq0-clause-over g t c = constant_over (g.S.Store.state c.args.store.now) c.args.number c.args.count
    (g.met.S.Store.sound c.args.store.now)

pub grow-requires-clause-planned : goal.grow-requires-clause-planned
grow-requires-clause-planned g t c =
    let u = g.S.Store.state c.numbered.new.store in let x = g.S.Store.state c.numbered-2.new.store in
    any_grown x c.args.vars c.args.count (c.vars.result - (c.args.count - 1)) c.in_ok-low.low c.in_ok-high.high
    (g.met.S.Store.sound c.numbered-2.new.store)
    c.numbered-2.ensures.any c.if-count-eq0.false c.requires.count (ap (λ v. v - (c.args.count - 1)) c.vars.ensures)
    (over_later u x (c.args.count - 1) c.in_ok-low.low c.numbered-2.ensures.grows c.in_ok-low.ensures.over) c.in_ok-high.ensures.over

pub returns-clause-grows : goal.returns-clause-grows
returns-clause-grows g t c =
    let s = g.S.Store.state c.args.store.now in let u = g.S.Store.state c.numbered.new.store in
    let x = g.S.Store.state c.numbered-2.new.store in
    Grows-trans s x (g.S.Store.state c.grow.new.store) (Grows-trans s u x c.numbered.ensures.grows c.numbered-2.ensures.grows)
    c.grow.ensures.grows

pub returns-clause-any : goal.returns-clause-any
returns-clause-any g t c = MayHoldAny-later c.args.vars (g.S.Store.state c.numbered-2.new.store) (g.S.Store.state c.grow.new.store)
    c.grow.ensures.grows c.numbered-2.ensures.any

pub returns-clause-over : goal.returns-clause-over
returns-clause-over g t c =
    let u = g.S.Store.state c.numbered.new.store in let x = g.S.Store.state c.numbered-2.new.store in
    over_grown x c.args.vars c.args.count (c.vars.result - (c.args.count - 1)) c.in_ok-low.low c.in_ok-high.high
    (g.met.S.Store.sound c.numbered-2.new.store)
    c.numbered-2.ensures.any c.if-count-eq0.false c.requires.count (ap (λ v. v - (c.args.count - 1)) c.vars.ensures)
    (over_later u x (c.args.count - 1) c.in_ok-low.low c.numbered-2.ensures.grows c.in_ok-low.ensures.over) c.in_ok-high.ensures.over
    (g.S.Store.state c.grow.new.store) c.grow.result c.grow.ensures
