use Rattle.std.proofs.Common.{◌≡◌, length, map, take}
use Rattle.anf_printer.specs.Text.{shown_line}
use Rattle.circuit_run.proofs.PrintedLines.{lines_for}
use Rattle.circuit_run.proofs.texts.answer_lines.Given as goal

abbrev pub invariant-loop-number : goal.invariant-loop-number
invariant-loop-number l =
    map shown_line l.lines.items ≡ lines_for (take (length l.yielded) l.numbers) (take (length l.yielded) l.answers)
