use Rattle.std.proofs.Common.{length}
use Rattle.nf_run.proofs.QueryLines.{ReadsQueries}
use Rattle.nf_run.proofs.reading.read_lines.Given as goal

abbrev pub invariant-loop-rest : goal.invariant-loop-rest
invariant-loop-rest l = ReadsQueries l.ins l.outs l.text l.rest l.count l.queries

abbrev pub decreases-loop-rest : goal.decreases-loop-rest
decreases-loop-rest l = length l.rest
