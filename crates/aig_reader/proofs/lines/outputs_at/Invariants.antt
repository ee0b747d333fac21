use Rattle.std.proofs.Common.{◌≡◌, ◌-◌}
use Rattle.aig_reader.specs.Fields.{output_at, many}
use Rattle.aig_reader.proofs.Loops.{with_front}
use Rattle.aig_reader.proofs.lines.outputs_at.Given as goal

abbrev pub invariant-loop : goal.invariant-loop
invariant-loop l = with_front l.literals.items (many (λ k. output_at l.variables) l.counter (l.count - l.counter) l.rest)
    ≡ many (λ k. output_at l.variables) 0 l.count l.bytes
