use Rattle.std.proofs.Common.{sym, ◌∙◌}
use Rattle.lattice.specs.Words.{rows_with}
use Rattle.node_store.proofs.StoreLaws.{failed, reads_one, then_call}
use Rattle.cube_build.proofs.BuiltCovers.{built_next, cube_planned, unions_planned}
use Rattle.cube_build.proofs.CoverLemmas.{cover_start, rows_with-same}
use Rattle.cube_build.specs.PointSets.{mask_of}
use Rattle.cube_build.proofs.covers.build_cover.Goals as goal
use Rattle.cube_build.proofs.covers.build_cover.Goals.{then-is_in+in_ok-points_of_row+in_ok-points, else-is_in}

pub loop-row-init : goal.loop-row-init
unfolding rows_with
loop-row-init g c = cover_start (g.S.Store.state c.args.store.now) (g.met.S.Store.sound c.args.store.now)

pub cube-requires-clause-planned : goal.cube-requires-clause-planned
cube-requires-clause-planned g c =
    cube_planned _ _ c.as_slice-row-items.result.now c.args.set c.args.output c.loop-row.row-index _ c.loop-row.invariant
    c.loop-row-test.true (sym c.is_in.ensures ∙ c.if-is_in.true) (rw c.as_slice-row-items.ensures c.requires.planned)

pub returns-in_err-points_of_row : goal.returns-in_err-points_of_row
returns-in_err-points_of_row g c = failed c.from_residual.ensures.0 (reads_one c.loop-row.invariant) c.in_err-points_of_row.ensures

pub union-requires-clause-planned : goal.union-requires-clause-planned
union-requires-clause-planned g c =
    unions_planned _ _ c.as_slice-row-items.result.now c.args.set c.args.output c.loop-row.row-index _ c.loop-row.invariant
    c.loop-row-test.true (sym c.is_in.ensures ∙ c.if-is_in.true) (rw c.as_slice-row-items.ensures c.requires.planned)
    _ c.in_ok-points_of_row.points_of_row (g.met.S.Store.sound c.cube.new.store) c.in_ok-points_of_row.ensures

pub returns-in_err-points : goal.returns-in_err-points
returns-in_err-points g c =
    failed c.from_residual-in_err-points.ensures.0 (then_call (reads_one c.loop-row.invariant) c.in_ok-points_of_row.ensures)
    c.in_err-points.ensures

pub loop-row-preserved : goal.loop-row-preserved
loop-row-preserved g c =
    let rows = c.as_slice-row-items.result.now in
    elim c.if-is_in.branch [
      | then-is_in+in_ok-points_of_row+in_ok-points w ↦ rw (w.store-is, w.points-is)
          (built_next _ _ rows c.args.set c.args.output c.loop-row.row-index _ c.loop-row.invariant c.loop-row-test.true
          (sym c.is_in.ensures ∙ w.if-is_in.true) (rw c.as_slice-row-items.ensures c.requires.planned) _
          w.in_ok-points_of_row.points_of_row (g.met.S.Store.sound w.cube.new.store) w.in_ok-points_of_row.ensures _ _
          w.in_ok-points.ensures)
      | else-is_in w ↦ rw (
        w.store-is,
        w.points-is,
        rows_with-same (mask_of c.args.set) c.args.output rows c.loop-row.row-index
            c.loop-row-test.true (sym c.is_in.ensures ∙ w.if-is_in.false),
      ) c.loop-row.invariant
    ]
