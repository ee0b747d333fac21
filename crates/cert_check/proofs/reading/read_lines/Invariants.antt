use Rattle.std.proofs.Common.{length}
use Rattle.cert_check.proofs.LinesRead.{ReadsLines}
use Rattle.cert_check.proofs.reading.read_lines.Given as goal

abbrev pub invariant-loop-rest : goal.invariant-loop-rest
invariant-loop-rest l = ReadsLines l.ins l.outs l.text l.rest l.count l.outputs.items

abbrev pub decreases-loop-rest : goal.decreases-loop-rest
decreases-loop-rest l = length l.rest
