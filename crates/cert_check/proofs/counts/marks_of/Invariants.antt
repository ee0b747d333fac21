use Rattle.std.proofs.Common.{take}
use Rattle.cert_check.proofs.Marked.{MarksMonomials}
use Rattle.cert_check.proofs.counts.marks_of.Given as goal

abbrev pub invariant-loop-m : goal.invariant-loop-m
invariant-loop-m l = MarksMonomials l.inputs (take l.m-index l.monomials) l.table.items
