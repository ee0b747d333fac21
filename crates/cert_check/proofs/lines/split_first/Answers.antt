use Rattle.std.proofs.Common.{◌==◌, rules, tests}
use Rattle.std.proofs.lemmas.Iterator.{YieldsList-from_slice}
use Rattle.std.proofs.lemmas.Iterator.Search.{position_from_yields_List}
use Rattle.cert_check.proofs.LinesRead.{parts_whole, parts_first}
use Rattle.cert_check.proofs.lines.split_first.Goals as goal

pub returns-in-Some-clause-first : goal.returns-in-Some-clause-first
returns-in-Some-clause-first c =
    let found = position_from_yields_List (λ b. b == c.args.byte) _ _ c.position.result c.position.ensures.ran
    (YieldsList-from_slice c.args.text.now cc) (λ x b q k. search (rules, tests)) in
    parts_first c.args.byte c.args.text.now c.position.result c.in-Some.end found c.in-Some.is

pub returns-in-None-clause-first : goal.returns-in-None-clause-first
returns-in-None-clause-first c =
    let found = position_from_yields_List (λ b. b == c.args.byte) _ _ c.position.result c.position.ensures.ran
    (YieldsList-from_slice c.args.text.now cc) (λ x b q k. search (rules, tests)) in
    parts_whole c.args.byte c.args.text.now c.position.result found c.in-None.is
