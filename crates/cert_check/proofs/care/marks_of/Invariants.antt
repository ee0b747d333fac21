use Rattle.std.proofs.Common.{take}
use Rattle.cert_check.specs.Marks.{MarksPoint}
use Rattle.cert_check.proofs.care.marks_of.Given as goal

abbrev pub invariant-loop-row : goal.invariant-loop-row
invariant-loop-row l = MarksPoint (take l.row-index l.rows) l.a l.marks
