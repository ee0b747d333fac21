use Rattle.std.proofs.Common.{[], ◌∷◌}
use Rattle.lattice.specs.Words.{cube, working_set}
use Rattle.lattice.proofs.Diagrams.{covers_head}
use Rattle.diagram_tests.proofs.of_cube_build.points_of.Goals as goal

pub cube-requires-clause-planned : goal.cube-requires-clause-planned
cube-requires-clause-planned c =
    let n = c.args.vars in let points = cube n c.args.row.now in
    rw (c.in_ok-store.ensures.vars, c.in_ok-store.ensures.plan) (covers_head n (working_set n (points ∷ [])) [] points (λ f has. has))
