use Rattle.std.proofs.Common.{arith}
use Rattle.cube_build.specs.declared.covers.PointSet.TheVariants.{On}
use Rattle.cube_build.proofs.CareNeeds.{all_cares_have, cover_planned}
use Rattle.diagram_tests.proofs.of_cube_build.points_of_set.Goals as goal

pub cover-requires-clause-planned : goal.cover-requires-clause-planned
cover-requires-clause-planned c =
    let p = c.args.p.now in
    rw (
      c.in_ok-cubes.ensures.grows.plan,
      c.in_ok-cubes.ensures.grows.vars,
      c.in_ok-store.ensures.plan,
      c.in_ok-store.ensures.vars,
      c.sets_of.ensures,
      c.as_slice.ensures,
    )
    (cover_planned _ p.inputs p.kind p.rows 1 c.args.place On c.requires
    (all_cares_have p.inputs p.outputs p.kind p.rows 1 (omega arith) p.fits.some_outputs))
