use Rattle.std.proofs.Common.{take}
use Rattle.lattice.specs.Words.{rows_with}
use Rattle.cube_build.specs.PointSets.{mask_of}
use Rattle.cube_build.proofs.CoverLemmas.{GivesRows}
use Rattle.cube_build.proofs.covers.build_cover.Given as goal

-- the points of the rows before
abbrev pub invariant-loop-row : goal.invariant-loop-row
invariant-loop-row g l =
    GivesRows (g.S.Store.state l.fn.store) (g.S.Store.state l.store) l.points
    (rows_with (mask_of l.set) l.output (take l.row-index l.row-items))
