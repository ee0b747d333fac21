use Rattle.std.proofs.Common.{refl}
use Rattle.lattice.specs.Words.{first_only}
use Rattle.set_algebra.proofs.Calls.{combined_planned}
use Rattle.vanish_basis.proofs.LeadElements.{apart, least_given, least_planned, least_start}
use Rattle.vanish_basis.proofs.elements.least_by.Goals as goal

pub minus-requires-clause-planned : goal.minus-requires-clause-planned
minus-requires-clause-planned g c =
    let k = least_start _ _ _ (g.met.S.Store.sound c.args.store.now) c.requires in combined_planned first_only refl k k.here.0 k.here.1.0

pub least-requires-clause-disjoint : goal.least-requires-clause-disjoint
least-requires-clause-disjoint g c = apart _ _ _ (g.met.S.Store.sound c.args.store.now) c.requires c.in_ok-zeros.ensures.result

pub least-requires-clause-planned : goal.least-requires-clause-planned
least-requires-clause-planned g c = least_planned _ _ _ (g.met.S.Store.sound c.args.store.now) c.requires c.in_ok-zeros.ensures.result

pub returns-clause-result : goal.returns-clause-result
returns-clause-result g c =
    least_given _ _ _ (g.met.S.Store.sound c.args.store.now) c.requires c.in_ok-zeros.ensures.result _ c.least.ensures.result
