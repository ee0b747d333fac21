use Rattle.std.proofs.Common.{codes, sym, subst, arith, rules}
use Rattle.std.specs.List.{All}
use Rattle.anf_printer.specs.Text.{IsAnswerOver, shown_answer}
use Rattle.pla_reader.proofs.ArrangedInputs.{count_printed}
use Rattle.anf_printer.proofs.answer.answer_text.Goals as goal

pub texts_of-requires-clause-count : goal.texts_of-requires-clause-count
texts_of-requires-clause-count c = search (rules, arith, count_printed)

pub texts_of-requires-clause-families : goal.texts_of-requires-clause-families
texts_of-requires-clause-families c =
    let count = count_printed (codes "x") _ _ _ _ c.args.p.now.fits.in_count c.printed-inputs.ensures c.in_ok-for_inputs.ensures in
    subst (λ n. All (λ s. IsAnswerOver n (shown_answer s)) c.args.shown.now) (sym count) c.requires.families
