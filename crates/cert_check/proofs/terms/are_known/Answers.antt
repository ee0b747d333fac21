use Rattle.std.proofs.Common.{◌==◌, ◌||◌, not, ◌∙◌, rules, tests}
use Rattle.std.specs.List.{list_all}
use Rattle.std.proofs.lemmas.Iterator.Search.{all_from_yields_List}
use Rattle.std.proofs.lemmas.Iterator.Splits.{YieldsList-from_slice_split}
use Rattle.lattice.specs.Words.{includes}
use Rattle.cert_check.specs.Reading.{words, is_term, factors_of}
use Rattle.cert_check.proofs.LinesRead.{known_by_words}
use Rattle.cert_check.proofs.terms.are_known.Goals as goal

pub returns : goal.returns
returns c =
    let all = all_from_yields_List (λ word. not (is_term word) || list_all (includes c.args.names.now)
    (factors_of word)) _ _ c.all.result c.all.ensures.ran
    (YieldsList-from_slice_split _ (λ b. b == 32) c.args.right.now c.split.ensures.rest c.split.ensures.done
    c.split.ensures.closure (λ x b q k. search (rules, tests))) (λ x b q k. search (rules, tests)) in
    all ∙ known_by_words c.args.names.now (words c.args.right.now)
