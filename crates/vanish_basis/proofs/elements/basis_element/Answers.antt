use Rattle.std.proofs.Common.{refl}
use Rattle.lattice.specs.Words.{basis_element_of, exactly_one}
use Rattle.set_algebra.proofs.Calls.{built_planned, call_failed, combined_planned, last_combined}
use Rattle.vanish_basis.proofs.LeadElements.{after_lead, after_points, after_tail, element_right, element_start}
use Rattle.vanish_basis.proofs.LeadElements.{lead_ones_planned, tail_planned}
use Rattle.vanish_basis.proofs.elements.basis_element.Goals as goal

pub one-requires-clause-planned : goal.one-requires-clause-planned
one-requires-clause-planned g c = built_planned (element_start _ _ _ (g.met.S.Store.sound c.args.store.now) c.requires) refl

pub ones_of-requires-clause-planned : goal.ones_of-requires-clause-planned
ones_of-requires-clause-planned g c = lead_ones_planned _ _ _ (g.met.S.Store.sound c.args.store.now) c.requires c.in_ok-lead.ensures

pub returns-in_err-ones-clause-gives : goal.returns-in_err-ones-clause-gives
returns-in_err-ones-clause-gives g c = call_failed (after_lead _ _ _ (g.met.S.Store.sound c.args.store.now) c.requires c.in_ok-lead.ensures)
    c.from_residual-in_err-ones.ensures.0 c.in_err-ones.ensures.result

pub least_by-requires-clause-planned : goal.least_by-requires-clause-planned
least_by-requires-clause-planned g c = tail_planned _ _ _ (g.met.S.Store.sound c.args.store.now) c.requires c.in_ok-lead.ensures
    (g.met.S.Store.sound c.ones_of.new.store) c.in_ok-ones.ensures.result

pub returns-in_err-tail-clause-gives : goal.returns-in_err-tail-clause-gives
returns-in_err-tail-clause-gives g c =
    let k = after_points _ _ _ (g.met.S.Store.sound c.args.store.now) c.requires c.in_ok-lead.ensures
    (g.met.S.Store.sound c.ones_of.new.store) c.in_ok-ones.ensures.result in
    call_failed k c.from_residual-in_err-tail.ensures.0 c.in_err-tail.ensures.result

pub xor-requires-clause-planned : goal.xor-requires-clause-planned
xor-requires-clause-planned g c =
    let k = after_tail _ _ _ (g.met.S.Store.sound c.args.store.now) c.requires c.in_ok-lead.ensures
    (g.met.S.Store.sound c.ones_of.new.store) c.in_ok-ones.ensures.result (g.met.S.Store.sound c.least_by.new.store)
    c.in_ok-tail.ensures.result in
    combined_planned exactly_one refl k k.here.1.1.0 k.here.0

pub returns : goal.returns
unfolding basis_element_of
returns g c =
    let sound = g.met.S.Store.sound c.args.store.now in
    let k = after_tail _ _ _ sound c.requires c.in_ok-lead.ensures (g.met.S.Store.sound c.ones_of.new.store) c.in_ok-ones.ensures.result
    (g.met.S.Store.sound c.least_by.new.store) c.in_ok-tail.ensures.result in
    let gives = last_combined exactly_one refl k k.here.1.1.0 k.here.0 c.xor.result c.xor.ensures.result in
    record { gives = gives; element = element_right _ _ _ sound c.requires c.xor.result gives; ready = c.xor.ensures.ready }
