use Rattle.std.proofs.Common.{sym, ◌∙◌, arith, rules}
use Rattle.lattice.proofs.Diagrams.{weight_is}
use Rattle.cert_check.proofs.LinesRead.{terms_none, term_known, terms_skip, factors_refused, term_refused, terms_more, terms_whole}
use Rattle.cert_check.proofs.terms.monomials_of.Goals as goal

pub loop-rest-init : goal.loop-rest-init
loop-rest-init c = search (rules, arith, terms_none, weight_is)

pub monomial_of-requires-clause-known : goal.monomial_of-requires-clause-known
monomial_of-requires-clause-known c = search (rules, arith, term_known)

pub returns-in_default-monomial_of : goal.returns-in_default-monomial_of
returns-in_default-monomial_of c = search (rules, arith, factors_refused)

pub returns-then-m-limit : goal.returns-then-m-limit
returns-then-m-limit c = search (rules, arith, term_refused)

pub loop-rest-preserved-in_ok-push : goal.loop-rest-preserved-in_ok-push
loop-rest-preserved-in_ok-push c =
    let so_far = rw (c.in-Some.is, c.split_first.ensures.first) at c.loop-rest.invariant in
    terms_more _ _ _ _ _ _ so_far (sym c.is_term.ensures ∙ c.if-is_term.true) _ c.in-Some-monomial_of.ensures.0
    c.in-Some-monomial_of.ensures.1 c.push.new.self c.if-m-limit.false c.in_ok-push.ensures.ok

pub loop-rest-preserved : goal.loop-rest-preserved
loop-rest-preserved c =
    let so_far = rw (c.in-Some.is, c.split_first.ensures.first) at c.loop-rest.invariant in
    terms_skip _ _ _ _ _ _ so_far (sym c.is_term.ensures ∙ c.if-is_term.false)

pub returns : goal.returns
returns c = terms_whole _ _ _ _ (rw c.in_default.is at c.loop-rest.invariant)
