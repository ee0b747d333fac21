use Rattle.std.proofs.Common.{◌||◌, ◌∙◌, rules, tests}
use Rattle.std.proofs.lemmas.Iterator.{YieldsList-from_slice}
use Rattle.std.proofs.lemmas.Iterator.Consumers.{YieldsList-from_filter, count_from_yields_List}
use Rattle.cert_check.specs.declared.care.Care.{Care}
use Rattle.cert_check.proofs.Points.{care_count}
use Rattle.cert_check.proofs.checking.count_care.Goals as goal

pub returns : goal.returns
returns c = λ n zeros ones marks. count_from_yields_List c.filter.result c.count.result c.count.ensures.ran
    (YieldsList-from_filter _ (λ (p : Care). p.zero || p.one) (YieldsList-from_slice c.args.care.now cc)
    c.filter.ensures.closure (λ x b q k. search (rules, tests))) ∙ care_count n zeros ones _ marks
