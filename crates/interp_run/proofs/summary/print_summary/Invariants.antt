use Rattle.std.proofs.Common.{◌≡◌, ◌++◌, map, take, codes, decimal}
use Rattle.anf_printer.specs.Text.{shown_answer}
use Rattle.interp_run.proofs.Written.{lines_from}
use Rattle.interp_run.proofs.summary.print_summary.Given as goal

abbrev pub invariant-loop-before : goal.invariant-loop-before
invariant-loop-before l =
    l.text.items ≡ (codes "points " ++ decimal l.fn.points ++ codes "\n") ++ lines_from 1 (map shown_answer (take l.before l.shown))
