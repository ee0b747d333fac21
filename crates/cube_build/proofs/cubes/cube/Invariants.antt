use Rattle.std.proofs.Common.{Ok}
use Rattle.node_store.specs.Stores.{Builds}
use Rattle.cube_build.specs.PartialCubes.{cube_behind}
use Rattle.cube_build.proofs.cubes.cube.Given as goal

abbrev pub invariant-loop-behind : goal.invariant-loop-behind
invariant-loop-behind g l = Builds (g.S.Store.state l.initial.store) (g.S.Store.state l.store) (Ok l.points) (cube_behind l.behind l.row)
