use Rattle.node_store.specs.Stores.{family}
use Rattle.diagram_tests.proofs.AnyNeeds.{any_times}
use Rattle.diagram_tests.proofs.of_bool_poly.times_one.Goals as goal

pub times_var-requires-clause-planned : goal.times_var-requires-clause-planned
times_var-requires-clause-planned g c =
    let s = g.S.Store.state c.args.store.now in
    any_times c.args.vars s (family s c.args.a) c.args.var c.requires.ready.any
