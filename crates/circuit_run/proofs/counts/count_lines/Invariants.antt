use Rattle.std.proofs.Common.{◌≡◌, length, take}
use Rattle.circuit_run.specs.Texts.{counts_text}
use Rattle.circuit_run.proofs.counts.count_lines.Given as goal

abbrev pub invariant-loop-number : goal.invariant-loop-number
invariant-loop-number l =
    l.text.items ≡ counts_text l.outputs (take (length l.yielded) l.numbers) (take (length l.yielded) l.measures)
