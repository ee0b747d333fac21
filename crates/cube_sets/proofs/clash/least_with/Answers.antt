use Rattle.std.proofs.Common.{length, arith}
use Rattle.std.proofs.lemmas.List.Elements.{All-contains}
use Rattle.lattice.specs.declared.row.Row.{Row}
use Rattle.pla_reader.specs.Description.{FitsSizes}
use Rattle.cube_sets.specs.Buckets.{Fixes, IsMarked}
use Rattle.cube_sets.specs.Clashes.{IsClashOf}
use Rattle.cube_sets.proofs.Search.{with_on_row, search_next, search_end}
use Rattle.cube_sets.proofs.clash.least_with.Goals as goal
use Rattle.cube_sets.proofs.clash.least_with.Goals.{in-Some, in_default, then-outputs-eq0-via-then-outputs-eq0}
use Rattle.cube_sets.proofs.clash.least_with.Goals.{then-outputs-eq0-via-else-outputs-eq0+then-not-may_clash}
use Rattle.cube_sets.proofs.clash.least_with.Goals.{then-outputs-eq0-via-else-outputs-eq0+else-not-may_clash+then-not-may_clash-2}

pub returns-then-outputs-eq0 : goal.returns-then-outputs-eq0
returns-then-outputs-eq0 c d clash = elim c.then-outputs-eq0.branch [
  | then-outputs-eq0-via-then-outputs-eq0 w ↦ (let none = w.if-outputs-eq0.true in let first = clash.1.2.first in
      let last = clash.0 in omega arith)
  | then-outputs-eq0-via-else-outputs-eq0+then-not-may_clash w ↦ w.may_clash.ensures w.if-not-may_clash.true clash.1.0
      (All-contains (Fixes c.args.common) c.args.p.now.rows clash.1.0 c.requires.fixed clash.1.1)
      (All-contains (IsMarked (length c.args.offs.now) c.args.common c.args.offs.now) c.args.p.now.rows clash.1.0
      c.requires.marked clash.1.1)
      c.args.p.now.inputs d clash.1.2
  | then-outputs-eq0-via-else-outputs-eq0+else-not-may_clash+then-not-may_clash-2 w ↦
      w.may_clash-else-not-may_clash.ensures w.if-not-may_clash-2.true clash.1.0
      (All-contains (Fixes c.args.common) c.args.p.now.rows clash.1.0 c.requires.fixed clash.1.1)
      (All-contains (IsMarked (length c.args.others.now) c.args.common c.args.others.now) c.args.p.now.rows clash.1.0
      c.requires.marked_again clash.1.1)
      c.args.p.now.inputs d clash.1.2
]

pub loop-b-preserved : goal.loop-b-preserved
loop-b-preserved c =
    let p = c.args.p.now in let no_row : Row = record { line = 0; care = 0; value = 0; on = 0; off = 0; dc = 0 } in
    let same = c.as_slice-b-items.ensures in
    let fits = All-contains (FitsSizes p.inputs p.outputs p.kind) p.rows c.args.a.now p.fits.rows_fit c.requires.row in
    let fits_here = rw (← same) at p.fits.rows_fit c.loop-b.b-index no_row c.loop-b-test.true in
    let next = search_next (IsClashOf p.inputs c.args.a.now) c.args.outputs p.rows (with_on_row p.inputs c.args.a.now) c.loop-b.limit _
    c.loop-b.b-index no_row c.loop-b.least c.clash_of.result p.fits.lines_ascend same c.loop-b-test.true c.loop-b.invariant
    (c.clash_of.ensures p.inputs fits.care fits_here.care) in
    elim c.match-clash_of.branch [
      | in-Some w ↦ rw (w.limit-is, w.least-is) (rw w.in-Some.is at next)
      | in_default w ↦ rw (w.limit-is, w.least-is) (rw w.in_default.is at next)
    ]

pub returns : goal.returns
returns c = grind (arith, search_end)
