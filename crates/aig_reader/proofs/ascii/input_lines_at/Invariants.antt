use Rattle.std.proofs.Common.{◌≡◌, ◌-◌}
use Rattle.aig_reader.specs.Fields.{through}
use Rattle.aig_reader.specs.Ascii.{input_line_at}
use Rattle.aig_reader.proofs.ascii.input_lines_at.Given as goal

abbrev pub invariant-loop-k : goal.invariant-loop-k
invariant-loop-k l = through input_line_at l.k (l.count - l.k) l.table l.rest ≡ through input_line_at 0 l.count l.initial.table l.bytes
