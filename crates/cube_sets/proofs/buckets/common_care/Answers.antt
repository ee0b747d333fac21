use Rattle.std.proofs.Common.{bit_and, get_or, subst, take}
use Rattle.std.specs.List.{All}
use Rattle.std.proofs.lemmas.List.{take_all}
use Rattle.std.proofs.lemmas.List.Elements.{All-more}
use Rattle.lattice.specs.declared.row.Row.{Row}
use Rattle.cube_sets.specs.Buckets.{Fixes}
use Rattle.cube_sets.proofs.Marks.{fixes_cut, fixes_cut_other}
use Rattle.cube_sets.proofs.buckets.common_care.Goals as goal

pub loop-row-preserved : goal.loop-row-preserved
loop-row-preserved c =
    let no_row : Row = record { line = 0; care = 0; value = 0; on = 0; off = 0; dc = 0 } in
    let fixed = c.fixed_by-common.result in
    All-more (Fixes (bit_and c.loop-row.common fixed)) c.args.rows.now c.loop-row.row-index no_row c.loop-row-test.true
    (λ k d less. fixes_cut c.loop-row.common fixed (get_or (take c.loop-row.row-index c.args.rows.now) k d)
    (c.loop-row.invariant k d less))
    (fixes_cut_other c.loop-row.common fixed (get_or c.args.rows.now c.loop-row.row-index no_row) c.fixed_by-common.ensures)

pub returns : goal.returns
returns c = subst (All (Fixes c.loop-row.common)) (take_all c.loop-row.row-index c.args.rows.now c.loop-row-test.false) c.loop-row.invariant
