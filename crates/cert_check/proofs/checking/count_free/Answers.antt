use Rattle.std.proofs.Common.{◌==◌, ◌∙◌, rules, tests}
use Rattle.std.proofs.lemmas.Iterator.{YieldsList-from_slice}
use Rattle.std.proofs.lemmas.Iterator.Consumers.{YieldsList-from_filter, count_from_yields_List}
use Rattle.cert_check.proofs.Points.{free_count}
use Rattle.cert_check.proofs.checking.count_free.Goals as goal

pub returns : goal.returns
returns c = λ n tops counted. count_from_yields_List c.filter.result c.count.result c.count.ensures.ran
    (YieldsList-from_filter _ (λ count. count == 0) (YieldsList-from_slice c.args.counts.now cc)
    c.filter.ensures.closure (λ x b q k. search (rules, tests))) ∙ free_count n tops _ counted
