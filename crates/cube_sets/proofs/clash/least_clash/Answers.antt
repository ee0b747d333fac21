use Rattle.std.proofs.Common.{length, ap, arith}
use Rattle.cube_sets.specs.Clashes.{IsClashOf, IsAmong}
use Rattle.cube_sets.proofs.Search.{with_all_rows, search_next, search_end}
use Rattle.cube_sets.proofs.clash.least_clash.Goals as goal
use Rattle.cube_sets.proofs.clash.least_clash.Goals.{in-Some, in_default}

pub loop-a-preserved : goal.loop-a-preserved
loop-a-preserved c =
    let p = c.args.p.now in
    let next = search_next (λ a. IsAmong (IsClashOf p.inputs a) p.rows) p.outputs p.rows (with_all_rows p.inputs p.rows) c.loop-a.outputs _
    c.loop-a.a-index (record { line = 0; care = 0; value = 0; on = 0; off = 0; dc = 0 }) c.loop-a.least c.least_with.result
    p.fits.lines_ascend c.as_slice-a-items.ensures c.loop-a-test.true c.loop-a.invariant c.least_with.ensures in
    elim c.match-least_with.branch [
      | in-Some w ↦ rw (w.outputs-is, w.least-is) (rw w.in-Some.is at next)
      | in_default w ↦ rw (w.outputs-is, w.least-is) (rw w.in_default.is at next)
    ]

pub returns : goal.returns
returns c =
    let p = c.args.p.now in
    search_end (λ a. IsAmong (IsClashOf p.inputs a) p.rows) p.outputs p.rows c.loop-a.outputs c.loop-a.a-index c.loop-a.least
    (let all = c.loop-a-test.false in let same = ap length c.as_slice-a-items.ensures in omega arith) c.loop-a.invariant
