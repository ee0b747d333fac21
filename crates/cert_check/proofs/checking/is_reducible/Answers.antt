use Rattle.std.proofs.Common.{◌==◌, ◌∙◌, not, get_or, rules, tests}
use Rattle.std.proofs.lemmas.Iterator.{YieldsList-from_slice}
use Rattle.std.proofs.lemmas.Iterator.Search.{any_from_yields_List}
use Rattle.cert_check.proofs.Points.{reducible_by_table}
use Rattle.cert_check.proofs.checking.is_reducible.Goals as goal

pub returns : goal.returns
returns c = λ n tops counted. any_from_yields_List (λ m. not (get_or c.args.counts.now m 0 == 0)) _ _ _ c.any.ensures.ran
    (YieldsList-from_slice c.args.terms.now cc) (λ x b q k. search (rules, tests)) ∙ reducible_by_table n tops _ counted _ c.requires
