use Rattle.std.proofs.Common.{ap, ◌∙◌, sym, ◌==◌, rules, tests}
use Rattle.std.specs.List.{list_all}
use Rattle.std.proofs.lemmas.Iterator.Search.{all_from_yields_List}
use Rattle.std.proofs.lemmas.Iterator.Splits.{YieldsList-from_slice_split}
use Rattle.lattice.specs.Words.{includes}
use Rattle.cert_check.proofs.LinesRead.{factors_of_other}
use Rattle.cert_check.proofs.terms.is_known.Goals as goal

pub returns-else-is_word : goal.returns-else-is_word
returns-else-is_word c =
    let all = all_from_yields_List (includes c.args.names.now) _ _ c.all.result c.all.ensures.ran
    (YieldsList-from_slice_split _ (λ b. b == 42) c.args.term.now c.split.ensures.rest c.split.ensures.done
    c.split.ensures.closure (λ x b q k. search (rules, tests))) (λ x b q k. search (rules, tests)) in
    all ∙ ap (list_all (includes c.args.names.now)) (sym (factors_of_other c.args.term.now (sym c.is_word.ensures ∙ c.if-is_word.false)))
