use Rattle.std.proofs.Common.{◌∙◌, arith, sym}
use Rattle.std.proofs.lemmas.List.{take_all}
use Rattle.aig_pairs.proofs.Naming.{none_yet, name_found, not_found, put_in_order, not_as_many}
use Rattle.aig_pairs.proofs.order.order_of.Goals as goal

pub returns-then-names-wanted : goal.returns-then-names-wanted
returns-then-names-wanted c =
    not_as_many c.args.names.now c.args.wanted.now (λ same. grind (arith, same, c.if-names-wanted.true))

pub loop-name-init : goal.loop-name-init
loop-name-init c =
    let none = none_yet c.args.names.now in rw c.new-order.ensures (record { named = none.0; within = none.1 })

pub returns-in-None : goal.returns-in-None
returns-in-None c =
    not_found c.args.names.now c.args.wanted.now c.loop-name.name-index _ _ c.loop-name-test.true (c.as_slice.ensures ∙ c.name-item.is)
    (sym c.in-None.ensures)

pub loop-name-preserved : goal.loop-name-preserved
loop-name-preserved c =
    let more = name_found c.args.names.now c.args.wanted.now c.loop-name.name-index _ _ c.loop-name-test.true
    (c.as_slice.ensures ∙ c.name-item.is) c.loop-name.order c.in-Some.place (sym c.in-Some.ensures) c.loop-name.invariant.named
    c.loop-name.invariant.within in
    rw c.in_ok-push-in-Some.ensures.ok (record { named = more.0; within = more.1 })

pub returns : goal.returns
returns c =
    let wanted = c.args.wanted.now in
    put_in_order c.args.names.now wanted c.loop-name.order (grind (arith, c.if-names-wanted.false)) c.loop-name.invariant.within
    (c.loop-name.invariant.named ∙ take_all c.loop-name.name-index wanted (omega (arith, c.loop-name-test.false))) c.requires.distinct
