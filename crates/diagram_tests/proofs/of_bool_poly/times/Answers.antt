use Rattle.diagram_tests.proofs.AnyNeeds.{any_product}
use Rattle.diagram_tests.proofs.of_bool_poly.times.Goals as goal

pub product-requires-clause-planned : goal.product-requires-clause-planned
product-requires-clause-planned g c =
    any_product c.args.vars (g.S.Store.state c.args.store.now) c.args.a c.args.b
    (g.met.S.Store.sound c.args.store.now) c.requires.first c.requires.second c.requires.any
