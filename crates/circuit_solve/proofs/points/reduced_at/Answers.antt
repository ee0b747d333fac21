use Rattle.circuit_solve.proofs.PointSteps.{least_planned, ones_planned, reduced_given}
use Rattle.circuit_solve.proofs.points.reduced_at.Goals as goal

pub ones_of-requires-clause-planned : goal.ones_of-requires-clause-planned
ones_of-requires-clause-planned g c =
    ones_planned c.args.points c.args.given (g.met.S.Store.sound c.args.store.now) c.requires.points c.requires.given c.requires.planned

pub least_by-requires-clause-planned : goal.least_by-requires-clause-planned
least_by-requires-clause-planned g c =
    least_planned c.args.points c.args.given (g.met.S.Store.sound c.args.store.now) c.requires.points c.requires.given c.requires.planned
    (g.met.S.Store.sound c.ones_of.new.store) c.in_ok-ones.ensures

pub returns : goal.returns
returns g c =
    reduced_given c.args.points c.args.given (g.met.S.Store.sound c.args.store.now) c.requires.points c.requires.given c.requires.planned
    (g.met.S.Store.sound c.ones_of.new.store) c.in_ok-ones.ensures c.least_by.result c.least_by.ensures.result
