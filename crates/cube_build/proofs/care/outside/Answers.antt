use Rattle.std.proofs.Common.{refl}
use Rattle.lattice.specs.Words.{first_only}
use Rattle.set_algebra.proofs.Calls.{built_planned, combined_planned, last_combined}
use Rattle.cube_build.proofs.BuiltSets.{outside_all, outside_start}
use Rattle.cube_build.proofs.care.outside.Goals as goal

pub power-requires : goal.power-requires
power-requires g c = record {
  planned = built_planned (outside_start c.args.a (g.met.S.Store.sound c.args.store.now) c.requires.known c.requires.planned) refl;
}

pub minus-requires-clause-planned : goal.minus-requires-clause-planned
minus-requires-clause-planned g c =
    let k = outside_all c.args.a (g.met.S.Store.sound c.args.store.now) c.requires.known c.requires.planned c.in_ok-all.ensures in
    combined_planned first_only refl k k.here.0 k.here.1.0

pub returns : goal.returns
returns g c =
    let k = outside_all c.args.a (g.met.S.Store.sound c.args.store.now) c.requires.known c.requires.planned c.in_ok-all.ensures in
    last_combined first_only refl k k.here.0 k.here.1.0 c.minus.result c.minus.ensures
