use Rattle.std.proofs.Common.{◌≡◌, take, length, map}
use Rattle.anf_printer.specs.Text.{texts_of, shown_answer}
use Rattle.anf_printer.proofs.answer.texts_of.Given as goal

abbrev pub invariant-loop-name : goal.invariant-loop-name
invariant-loop-name l = l.pages ≡ texts_of l.mode l.names (take (length l.yielded) l.fn.outputs)
    (take (length l.yielded) (map shown_answer l.fn.shown))
