use Rattle.std.proofs.Common.{◌≡◌, ◌∙◌, refl, arith, rules}
use Rattle.std.proofs.lemmas.Result.{err_from_is_err_and}
use Rattle.lattice.specs.Words.{Family}
use Rattle.cert_check.specs.Marks.{MarksCare}
use Rattle.cert_check.specs.Faults.{first_verdict, output_checks, misses}
use Rattle.cert_check.proofs.RightAnswers.{basis_fails, behind_basis, tops_below, terms_within, elements_within}
use Rattle.cert_check.proofs.Points.{terms_counted, misses-reverse}
use Rattle.cert_check.proofs.checking.judge_output.Goals as goal
use Rattle.cert_check.proofs.checking.judge_output.Goals.{After-misses}

pub counts_of-requires-clause-below : goal.counts_of-requires-clause-below
counts_of-requires-clause-below c = terms_within c.requires.over.poly c.as_slice.ensures refl

tested : (c : After-misses) (zeros ones : Family) → MarksCare c.args.inputs zeros ones c.args.care.now
    → c.misses.result ≡ misses zeros ones c.args.given.now.poly.terms
tested c zeros ones marks = c.misses.ensures _ zeros ones _ marks
    (terms_counted c.requires.over.poly c.as_slice.ensures c.deref.ensures.value c.in_ok-values.ensures) ∙ misses-reverse zeros ones _

pub returns-then-misses : goal.returns-then-misses
unfolding first_verdict output_checks
returns-then-misses c = grind (arith, tested (goal.at.returns-then-misses c).After-misses)

pub judge_elements-requires-clause-families : goal.judge_elements-requires-clause-families
judge_elements-requires-clause-families c = rw c.as_slice-2.ensures c.requires.over.basis

pub returns-in_err-tops : goal.returns-in_err-tops
returns-in_err-tops c =
    grind (arith, tested (goal.at.returns-in_err-tops c).After-misses, basis_fails, err_from_is_err_and, c.in_err-tops.ensures.checks)

pub counts_of-requires-2-clause-below : goal.counts_of-requires-2-clause-below
counts_of-requires-2-clause-below c =
    tops_below _ _ _ _ _ c.requires.over.basis c.deref-2.ensures.value c.in_ok-tops.ensures.tops c.as_slice-2.ensures

pub returns-then-miscounts : goal.returns-then-miscounts
returns-then-miscounts c = λ zeros ones marks.
    let counts = c.miscounts.ensures c.args.inputs zeros ones c.deref-2.result.now marks
    (rw c.deref-3.ensures.value c.in_ok-counts.ensures) in
    let fine = c.in_ok-tops.ensures.checks zeros ones marks in
    grind (arith, tested (goal.at.returns-then-miscounts c).After-misses zeros ones marks, behind_basis)

pub judge_reduced-requires-clause-poly : goal.judge_reduced-requires-clause-poly
judge_reduced-requires-clause-poly c = search (rules, arith, terms_within)

pub judge_reduced-requires-clause-basis : goal.judge_reduced-requires-clause-basis
judge_reduced-requires-clause-basis c = search (rules, arith, elements_within)

pub returns : goal.returns
returns c = λ zeros ones marks.
    let counts = c.miscounts.ensures c.args.inputs zeros ones c.deref-2.result.now marks
    (rw c.deref-3.ensures.value c.in_ok-counts.ensures) in
    let last = c.judge_reduced.ensures c.args.inputs c.deref-2.result.now (rw c.deref-4.ensures.value c.in_ok-counts.ensures) in
    let fine = c.in_ok-tops.ensures.checks zeros ones marks in
    grind (arith, tested (goal.at.returns c).After-misses zeros ones marks, behind_basis)
