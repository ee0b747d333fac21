use Rattle.pla_reader.specs.Reading.{description}
use Rattle.cube_build.proofs.UnitedCares.{sets_planned, united_given, united_planned}
use Rattle.cube_build.proofs.care.care_points.Goals as goal

pub care_sets-requires-clause-planned : goal.care_sets-requires-clause-planned
care_sets-requires-clause-planned g c = sets_planned (g.S.Store.state c.args.store.now) (description c.args.p.now) c.args.output
    c.requires.vars c.requires.planned

pub union-requires-clause-planned : goal.union-requires-clause-planned
union-requires-clause-planned g c =
    united_planned (g.S.Store.state c.args.store.now) (description c.args.p.now) c.args.output c.requires.vars c.requires.planned
    c.in_ok-cares.ensures

pub returns : goal.returns
returns g c =
    united_given (g.S.Store.state c.args.store.now) (description c.args.p.now) c.args.output c.requires.vars c.requires.planned
    c.in_ok-cares.ensures _ c.union.ensures
