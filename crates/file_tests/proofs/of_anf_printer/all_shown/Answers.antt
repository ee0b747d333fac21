use Rattle.std.proofs.Common.{sym, subst, arith}
use Rattle.std.specs.List.{All}
use Rattle.std.proofs.lemmas.List.Elements.{All-push}
use Rattle.std.proofs.lemmas.Grind.{common_steps}
use Rattle.anf_printer.specs.Text.{IsAnswerOver, shown_answer}
use Rattle.file_tests.proofs.of_anf_printer.all_shown.Goals as goal

pub loop-output-preserved : goal.loop-output-preserved
loop-output-preserved c = record {
  count = grind (arith, common_steps);
  answers = subst (All (λ s. IsAnswerOver c.args.inputs (shown_answer s))) (sym c.in_ok-push.ensures.items)
      (All-push (λ s. IsAnswerOver c.args.inputs (shown_answer s)) c.loop-output.all.items c.in_ok-shown.field-0
      c.loop-output.invariant.answers c.in_ok-shown.ensures);
}
