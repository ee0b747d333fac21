use Rattle.std.proofs.Common.{◌≡◌, length, take}
use Rattle.circuit_run.specs.Texts.{equal_text}
use Rattle.circuit_run.proofs.equal.equal_lines.Given as goal

abbrev pub invariant-loop-number : goal.invariant-loop-number
invariant-loop-number l =
    l.text.items ≡ equal_text l.names l.outputs (take (length l.yielded) l.numbers) (take (length l.yielded) l.points)
