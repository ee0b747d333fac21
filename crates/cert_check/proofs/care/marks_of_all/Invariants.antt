use Rattle.cert_check.proofs.Marked.{MarksBelow}
use Rattle.cert_check.proofs.care.marks_of_all.Given as goal

abbrev pub invariant-loop-a : goal.invariant-loop-a
invariant-loop-a l = MarksBelow l.a l.rows l.all.items
