use Rattle.std.proofs.Common.{◌≡◌, ◌-◌}
use Rattle.aig_reader.specs.Fields.{through}
use Rattle.aig_reader.specs.Ascii.{gate_line_at}
use Rattle.aig_reader.proofs.ascii.gate_lines_at.Given as goal

abbrev pub invariant-loop-k : goal.invariant-loop-k
invariant-loop-k l = through (gate_line_at l.inputs) l.k (l.count - l.k) l.table l.rest
    ≡ through (gate_line_at l.inputs) 0 l.count l.initial.table l.bytes
