use Rattle.std.proofs.Common.{take}
use Rattle.node_store.specs.Stores.{Reads}
use Rattle.cube_build.specs.UsedCubes.{AreCubes}
use Rattle.cube_build.proofs.rows.row_cubes.Given as goal

-- the cubes of the rows before
abbrev pub invariant-loop-row : goal.invariant-loop-row
invariant-loop-row g l = record {
  reads : Reads (g.S.Store.state l.fn.store) (g.S.Store.state l.store);
  cubes : AreCubes (g.S.Store.state l.store) (take l.row-index l.row-items) l.cubes.items;
}
