use Rattle.std.proofs.Common.{refl}
use Rattle.set_algebra.proofs.Calls.{built_planned}
use Rattle.circuit_solve.proofs.PointSteps.{points_start, where_given, where_planned}
use Rattle.circuit_solve.proofs.points.points_where.Goals as goal

pub power-requires : goal.power-requires
power-requires g c = record {
  planned = built_planned (points_start c.args.polynomial (g.met.S.Store.sound c.args.store.now) c.requires.known c.requires.planned) refl;
}

pub ones_of-requires-clause-planned : goal.ones_of-requires-clause-planned
ones_of-requires-clause-planned g c =
    where_planned c.args.polynomial (g.met.S.Store.sound c.args.store.now) c.requires.known c.requires.planned c.in_ok-all.ensures

pub returns : goal.returns
returns g c =
    where_given c.args.polynomial (g.met.S.Store.sound c.args.store.now) c.requires.known c.requires.planned c.in_ok-all.ensures
    c.ones_of.result c.ones_of.ensures
