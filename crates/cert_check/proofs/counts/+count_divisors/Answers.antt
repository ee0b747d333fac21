use Rattle.std.proofs.Common.{◌-◌, ◌∙◌, arith, rules}
use Rattle.std.proofs.lemmas.List.Elements.{All-drop}
use Rattle.cert_check.proofs.Marked.{counts_one, counts_whole, sums_fit, half_of}
use Rattle.lattice.proofs.Diagrams.{weight_is}
use Rattle.cert_check.proofs.counts.+count_divisors.Goals as goal

pub returns-then-variables-eq0 : goal.returns-then-variables-eq0
returns-then-variables-eq0 t c = counts_one c.args.variables c.args.table.now c.if-variables-eq0.true c.requires.size c.requires.marks

pub split_at_mut-without-requires : goal.split_at_mut-without-requires
split_at_mut-without-requires t c = search (rules, arith, half_of, weight_is)

pub count_divisors-requires-2 : goal.count_divisors-requires-2
count_divisors-requires-2 t c = search (rules, arith, half_of, weight_is, All-drop)

pub add_each-requires-clause-fits : goal.add_each-requires-clause-fits
add_each-requires-clause-fits t c = λ k below. sums_fit (c.args.variables - 1) _ _ _ _ k (omega arith)
    c.count_divisors.ensures c.count_divisors-2.ensures below

pub returns : goal.returns
returns t c =
    let weight = weight_is (c.args.variables - 1) (omega arith) in
    counts_whole _ _ _ _ _ _ _ c.if-variables-eq0.false c.split_at_mut-without.ensures.value
    (c.split_at_mut-without.ensures.front_len ∙ weight) c.count_divisors.ensures c.count_divisors-2.ensures c.add_each.auto.numbers
    c.add_each.ensures
