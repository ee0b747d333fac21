use Rattle.std.proofs.Common.{◌≡◌, map, take}
use Rattle.anf_printer.specs.Text.{shown_answer}
use Rattle.interp_run.specs.Answers.{notes_from}
use Rattle.interp_run.proofs.answer.make_notes.Given as goal

abbrev pub invariant-loop-before : goal.invariant-loop-before
invariant-loop-before l = l.notes.items ≡ notes_from 1 (map shown_answer (take l.before l.shown))
