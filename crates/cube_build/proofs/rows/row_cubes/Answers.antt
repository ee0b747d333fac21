use Rattle.cube_build.proofs.rows.row_cubes.Goals as goal
use Rattle.std.proofs.Common.{◌<◌, length}
use Rattle.std.proofs.lemmas.List.Elements.{All-get_or}
use Rattle.node_store.proofs.StoreLaws.{Grows-trans, Reads-trans, reads_one}
use Rattle.pla_reader.specs.Description.{FitsSizes}
use Rattle.cube_build.proofs.CoverLemmas.{no_row, used_planned, cubes_next}

pub used_cube-requires-clause-planned : goal.used_cube-requires-clause-planned
used_cube-requires-clause-planned g c =
    let d = c.args.p.now in let i = c.loop-row.row-index in
    let less : i < length d.rows = rw c.as_slice-row-items.ensures at c.loop-row-test.true in
    rw (c.loop-row.invariant.reads.grows.plan, c.loop-row.invariant.reads.grows.vars, c.requires.vars, c.as_slice-row-items.ensures)
    (used_planned d.inputs d.outputs d.kind d.rows i less (g.S.Store.state c.args.store.now).plan d.fits.few_outputs
    (All-get_or (FitsSizes d.inputs d.outputs d.kind) d.rows i no_row less d.fits.rows_fit) c.requires.planned)

pub returns-in_err-used_cube-clause-grows : goal.returns-in_err-used_cube-clause-grows
returns-in_err-used_cube-clause-grows g c = Grows-trans _ _ _ c.loop-row.invariant.reads.grows c.in_err-used_cube.ensures.grows

pub returns-in_err-push-clause-grows : goal.returns-in_err-push-clause-grows
returns-in_err-push-clause-grows g c = Grows-trans _ _ _ c.loop-row.invariant.reads.grows c.in_ok-used_cube.ensures.grows

pub loop-row-preserved : goal.loop-row-preserved
loop-row-preserved g c = record {
  reads = Reads-trans _ _ _ c.loop-row.invariant.reads (reads_one c.in_ok-used_cube.ensures);
  cubes = rw c.in_ok-push.ensures.items
      (cubes_next _ _ c.as_slice-row-items.result.now c.loop-row.row-index c.loop-row.cubes.items c.in_ok-used_cube.field-0
      c.loop-row-test.true c.loop-row.invariant.cubes c.in_ok-used_cube.ensures);
}
