use Rattle.std.proofs.Common.{◌≡◌, vec_len}
use Rattle.std.specs.List.{All}
use Rattle.anf_printer.specs.Text.{IsAnswerOver, shown_answer}
use Rattle.file_tests.proofs.of_anf_printer.all_shown.Given as goal

abbrev pub invariant-loop-output : goal.invariant-loop-output
invariant-loop-output l = record {
  count : vec_len l.all ≡ l.output-index;
  answers : All (λ s. IsAnswerOver l.inputs (shown_answer s)) l.all.items;
}
