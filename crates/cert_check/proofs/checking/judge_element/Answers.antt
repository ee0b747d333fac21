use Rattle.std.proofs.Common.{◌≡◌, ◌∙◌, refl, arith}
use Rattle.lattice.specs.Words.{Family, union_of}
use Rattle.cert_check.specs.Marks.{MarksCare}
use Rattle.cert_check.specs.Faults.{first_verdict, is_one_in}
use Rattle.cert_check.proofs.RightAnswers.{no_lead_of_zero, lead_tests, terms_within}
use Rattle.cert_check.proofs.Points.{terms_counted, is_one-reverse}
use Rattle.cert_check.proofs.checking.judge_element.Goals as goal
use Rattle.cert_check.proofs.checking.judge_element.Goals.{After-is_one_in}

pub counts_of-requires-clause-below : goal.counts_of-requires-clause-below
counts_of-requires-clause-below c = terms_within c.requires.family c.as_slice-terms.ensures refl

tested : (c : After-is_one_in) (zeros ones : Family) → MarksCare c.args.inputs zeros ones c.args.care.now
    → c.is_one_in.result ≡ is_one_in (union_of c.args.inputs zeros ones) c.args.element.now.terms
tested c zeros ones marks = c.is_one_in.ensures _ zeros ones _ marks
    (terms_counted c.requires.family c.as_slice-terms.ensures c.deref.ensures.value c.in_ok-counts.ensures) ∙ is_one-reverse _ _

pub returns-then-is_one_in-clause-checks : goal.returns-then-is_one_in-clause-checks
unfolding first_verdict
returns-then-is_one_in-clause-checks c = grind (arith, tested (goal.at.returns-then-is_one_in-clause-checks c).After-is_one_in)

pub returns-in_default-clause-checks : goal.returns-in_default-clause-checks
unfolding first_verdict
returns-in_default-clause-checks c = grind (arith, no_lead_of_zero, tested (goal.at.returns-in_default-clause-checks c).After-is_one_in)

pub returns-then-is_comparable-clause-checks : goal.returns-then-is_comparable-clause-checks
unfolding first_verdict
returns-then-is_comparable-clause-checks c =
    grind (arith, lead_tests, tested (goal.at.returns-then-is_comparable-clause-checks c).After-is_one_in)

pub returns-then-is_below_last-clause-checks : goal.returns-then-is_below_last-clause-checks
unfolding first_verdict
returns-then-is_below_last-clause-checks c =
    grind (arith, lead_tests, tested (goal.at.returns-then-is_below_last-clause-checks c).After-is_one_in)

pub returns-clause-checks : goal.returns-clause-checks
unfolding first_verdict
returns-clause-checks c = grind (arith, lead_tests, tested (goal.at.returns-clause-checks c).After-is_one_in)
