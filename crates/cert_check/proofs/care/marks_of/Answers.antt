use Rattle.lattice.specs.declared.row.Row.{Row}
use Rattle.cert_check.proofs.Marked.{marks_none, marks_next_inside, marks_next_outside}
use Rattle.cert_check.proofs.care.marks_of.Goals as goal
use Rattle.cert_check.proofs.care.marks_of.Goals.{then-a-row, else-a-row}

-- what a place past the last row reads as
none : Row
none = record { line = 0; care = 0; value = 0; on = 0; off = 0; dc = 0 }

pub loop-row-init : goal.loop-row-init
loop-row-init c = marks_none c.args.a

pub loop-row-preserved : goal.loop-row-preserved
unfolding none
loop-row-preserved c = elim c.if-a-row.branch [
  | then-a-row w ↦ marks_next_inside _ _ none _ _ _ c.loop-row-test.true w.if-a-row.true c.loop-row.invariant w.marks-is
  | else-a-row w ↦ marks_next_outside _ _ none _ _ _ c.loop-row-test.true w.if-a-row.false c.loop-row.invariant w.marks-is
]
