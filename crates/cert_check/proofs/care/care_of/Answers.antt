use Rattle.std.proofs.Common.{rules, tests}
use Rattle.std.proofs.lemmas.Iterator.{items_from_collect, YieldsList-from_map, YieldsList-from_slice}
use Rattle.cert_check.specs.Marks.{care_by}
use Rattle.cert_check.proofs.Marked.{care_tables}
use Rattle.cert_check.proofs.care.care_of.Goals as goal

pub returns : goal.returns
returns c =
    let items = items_from_collect c.collect.result c.collect.ensures.ran
    (YieldsList-from_map _ (care_by c.args.kind c.args.output) (YieldsList-from_slice c.args.marks.now cc)
    c.map.ensures.closure (λ x r q k. search (rules, tests))) in
    care_tables c.args.kind c.args.output c.args.marks.now c.collect.result c.requires.first c.requires.last items
