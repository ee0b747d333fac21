use Rattle.diagram_tests.proofs.AnyNeeds.{any_ones}
use Rattle.diagram_tests.proofs.of_bool_poly.points_at.Goals as goal

pub ones_of-requires-clause-planned : goal.ones_of-requires-clause-planned
ones_of-requires-clause-planned g c =
    any_ones c.args.vars (g.S.Store.state c.args.store.now) c.args.h c.args.set (g.met.S.Store.sound c.args.store.now) c.requires.first
    c.requires.second c.requires.any
