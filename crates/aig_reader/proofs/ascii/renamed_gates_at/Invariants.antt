use Rattle.std.proofs.Common.{◌≡◌, ◌-◌}
use Rattle.aig_reader.specs.Fields.{many}
use Rattle.aig_reader.specs.Ascii.{renamed_gate_at}
use Rattle.aig_reader.proofs.Loops.{with_front}
use Rattle.aig_reader.proofs.ascii.renamed_gates_at.Given as goal

abbrev pub invariant-loop : goal.invariant-loop
invariant-loop l = with_front l.gates.items (many (λ k. renamed_gate_at l.table) l.counter (l.count - l.counter) l.rest)
    ≡ many (λ k. renamed_gate_at l.table) 0 l.count l.bytes
