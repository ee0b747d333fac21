use Rattle.std.proofs.Common.{subst, length, arith}
use Rattle.std.specs.List.{All}
use Rattle.std.proofs.lemmas.List.{take_all}
use Rattle.lattice.specs.declared.row.Row.{Row}
use Rattle.cube_sets.specs.Buckets.{IsMarked}
use Rattle.cube_sets.proofs.Marks.{marked_more}
use Rattle.cube_sets.proofs.buckets.mark_offs.Goals as goal

pub loop-row-preserved : goal.loop-row-preserved
loop-row-preserved c =
    let no_row : Row = record { line = 0; care = 0; value = 0; on = 0; off = 0; dc = 0 } in
    marked_more (length c.args.offs.now) c.args.common c.loop-row.offs c.bucket_of.result (let same = c.loop-row.auto.offs in
    let long = c.requires in let is = c.bucket_of.ensures in omega arith) c.args.rows.now c.loop-row.row-index no_row c.loop-row-test.true
    c.bucket_of.ensures c.loop-row.invariant

pub returns-clause-marked : goal.returns-clause-marked
returns-clause-marked c = subst (All (IsMarked (length c.args.offs.now) c.args.common c.loop-row.offs))
    (take_all c.loop-row.row-index c.args.rows.now c.loop-row-test.false) c.loop-row.invariant
