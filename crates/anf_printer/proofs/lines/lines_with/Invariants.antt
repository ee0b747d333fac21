use Rattle.std.proofs.Common.{◌≡◌, take, map}
use Rattle.anf_printer.specs.Text.{lines_text, shown_line}
use Rattle.anf_printer.proofs.lines.lines_with.Given as goal

abbrev pub invariant-loop-line : goal.invariant-loop-line
invariant-loop-line l = l.text.items ≡ lines_text l.names l.outputs (map shown_line (take l.line-index l.lines))
