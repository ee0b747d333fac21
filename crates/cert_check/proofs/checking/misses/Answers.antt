use Rattle.std.proofs.Common.{ℕ, ◌==◌, ◌%◌, ◌∙◌, cond, rules, tests}
use Rattle.std.proofs.lemmas.Iterator.{YieldsList-from_slice, YieldsList-from_zip}
use Rattle.std.proofs.lemmas.Iterator.Search.{any_from_yields_List}
use Rattle.cert_check.specs.declared.care.Care.{Care}
use Rattle.cert_check.proofs.Points.{misses_by_table}
use Rattle.cert_check.proofs.checking.misses.Goals as goal

pub returns : goal.returns
returns c = λ n zeros ones terms marks counted.
    any_from_yields_List (λ (p : Care × ℕ). cond (p.1 % 2 == 1) p.0.zero p.0.one) c.any.new.self _ c.any.result
    c.any.ensures.ran (YieldsList-from_zip (YieldsList-from_slice c.args.care.now cc) (YieldsList-from_slice c.args.counts.now cc))
    (λ x b q k. search (rules, tests)) ∙ misses_by_table n zeros ones _ marks terms _ counted
