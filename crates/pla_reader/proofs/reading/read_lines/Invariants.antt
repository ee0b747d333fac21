use Rattle.std.proofs.Common.{length}
use Rattle.pla_reader.specs.Lines.{lines_of}
use Rattle.pla_reader.specs.Reading.{up_to_end}
use Rattle.pla_reader.proofs.Whole.{ReadSoFar}
use Rattle.pla_reader.proofs.reading.read_lines.Given as goal

abbrev pub invariant-loop-rest : goal.invariant-loop-rest
invariant-loop-rest l = ReadSoFar l.bytes (up_to_end (lines_of l.rest)) (length l.rest) l.draft l.count

abbrev pub decreases-loop-rest : goal.decreases-loop-rest
decreases-loop-rest l = length l.rest
