use Rattle.std.proofs.Common.{subst}
use Rattle.std.specs.List.{All}
use Rattle.std.proofs.lemmas.List.{take_all}
use Rattle.std.proofs.lemmas.List.Elements.{All-more}
use Rattle.pla_reader.specs.Description.{FitsSizes}
use Rattle.file_tests.proofs.of_cube_sets.all_fit.Goals as goal

pub loop-row-preserved : goal.loop-row-preserved
loop-row-preserved c =
    let e = c.fits.ensures c.if-not-fits.false in
    All-more (FitsSizes c.args.inputs c.args.outputs c.args.kind) c.args.rows.now c.loop-row.row-index
    (record { line = 0; care = 0; value = 0; on = 0; off = 0; dc = 0 }) c.loop-row-test.true c.loop-row.invariant e

pub returns : goal.returns
returns c _ = subst (All (FitsSizes c.args.inputs c.args.outputs c.args.kind))
    (take_all c.loop-row.row-index c.args.rows.now c.loop-row-test.false) c.loop-row.invariant
