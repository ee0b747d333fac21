use Rattle.std.proofs.Common.{◌≡◌, length, map, reverse, take}
use Rattle.std.specs.Prelude.{zip}
use Rattle.anf_printer.specs.Text.{shown_line}
use Rattle.anf_printer.specs.declared.lines.Left.TheVariants.{Output}
use Rattle.nf_run.proofs.texts.answer_lines.Given as goal

abbrev pub invariant-loop-query : goal.invariant-loop-query
invariant-loop-query l = map shown_line l.lines.items ≡ zip (map (λ q. Output q.output) (take (length l.yielded) l.queries))
    (map reverse (take (length l.yielded) l.answers))
