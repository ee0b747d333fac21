use Rattle.std.proofs.Common.{◌≡◌, ◌+◌, ◌-◌, ◌*◌}
use Rattle.aig_reader.specs.Fields.{gate_at, many}
use Rattle.aig_reader.proofs.Loops.{with_front}
use Rattle.aig_reader.proofs.lines.gates_at.Given as goal

abbrev pub invariant-loop-k : goal.invariant-loop-k
invariant-loop-k l = with_front l.gates.items (many (λ k. gate_at (2 * (l.inputs + 1 + k))) l.k (l.count - l.k) l.rest)
    ≡ many (λ k. gate_at (2 * (l.inputs + 1 + k))) 0 l.count l.bytes
