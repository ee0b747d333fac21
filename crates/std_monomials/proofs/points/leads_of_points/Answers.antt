use Rattle.std.proofs.Common.{arith}
use Rattle.node_store.proofs.StoreLaws.{failed, Reads-refl}
use Rattle.std_monomials.proofs.PointLeads.{leads_given, monos_asked, points_asked}
use Rattle.std_monomials.proofs.points.leads_of_points.Goals as goal

pub standard-requires-clause-planned : goal.standard-requires-clause-planned
standard-requires-clause-planned g c = (points_asked c.args.points (g.met.S.Store.sound c.args.store.now) c.requires.known
    c.requires.planned).planned

pub returns-in_err-monos : goal.returns-in_err-monos
returns-in_err-monos g c = grind (arith, failed, Reads-refl)

pub leads-requires-clause-closed : goal.leads-requires-clause-closed
leads-requires-clause-closed g c = (monos_asked c.args.points (g.met.S.Store.sound c.args.store.now) c.requires.known
    c.requires.planned c.in_ok-monos.ensures.gives).closed

pub leads-requires-clause-planned : goal.leads-requires-clause-planned
leads-requires-clause-planned g c = (monos_asked c.args.points (g.met.S.Store.sound c.args.store.now) c.requires.known
    c.requires.planned c.in_ok-monos.ensures.gives).planned

pub returns : goal.returns
returns g c = leads_given c.args.points (g.met.S.Store.sound c.args.store.now) c.requires.known c.requires.planned
    c.in_ok-monos.ensures.gives _ c.leads.ensures.gives
