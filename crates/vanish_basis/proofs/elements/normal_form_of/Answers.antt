use Rattle.std.proofs.Common.{refl}
use Rattle.set_algebra.proofs.Calls.{built_planned}
use Rattle.vanish_basis.proofs.LeadElements.{after_ones, normal_gives, normal_least, normal_start, values_planned}
use Rattle.vanish_basis.proofs.elements.normal_form_of.Goals as goal

pub above-requires-clause-planned : goal.above-requires-clause-planned
above-requires-clause-planned g c = built_planned (normal_start _ _ _ (g.met.S.Store.sound c.args.store.now) c.requires) refl

pub least_by-requires-clause-planned : goal.least_by-requires-clause-planned
least_by-requires-clause-planned g c =
    let k = after_ones _ _ _ (g.met.S.Store.sound c.args.store.now) c.requires c.in_ok-ones.ensures in
    values_planned c.args.m _ _ k k.here.1.0 k.here.0

pub returns : goal.returns
returns g c =
    let sound = g.met.S.Store.sound c.args.store.now in
    let gives = normal_gives _ _ _ sound c.requires c.in_ok-ones.ensures c.least_by.result (g.met.S.Store.sound c.least_by.new.store)
    c.least_by.ensures.result in
    record { gives = gives; least = normal_least _ _ _ sound c.requires c.least_by.result gives; ready = c.least_by.ensures.ready }
