use Rattle.std.proofs.Common.{arith, rules}
use Rattle.std.proofs.lemmas.Result.{err_from_is_err_and}
use Rattle.cert_check.proofs.RightAnswers.{no_tops, tops_next, elements_fail, elements_next, elements_fine}
use Rattle.cert_check.proofs.checking.judge_elements.Goals as goal

pub loop-element-init : goal.loop-element-init
loop-element-init c = search (rules, arith, no_tops)

pub judge_element-requires-clause-family : goal.judge_element-requires-clause-family
judge_element-requires-clause-family c = rw c.element-item.is (c.requires.families _ _ c.loop-element-test.true)

pub returns-in_err-top-clause-checks : goal.returns-in_err-top-clause-checks
returns-in_err-top-clause-checks c = search (rules, arith, err_from_is_err_and, elements_fail)

pub loop-element-preserved : goal.loop-element-preserved
loop-element-preserved c = record {
  tops_are = tops_next _ _ _ _ _ _ c.loop-element-test.true c.element-item.is
      c.loop-element.invariant.tops_are c.in_ok-top.ensures.top c.in_ok-push.ensures.items;
  goes_on = λ zeros ones marks. elements_next _ _ _ _ _ c.loop-element-test.true c.element-item.is
      (c.loop-element.invariant.goes_on zeros ones marks) _ _ (rw c.deref.ensures.value at (c.in_ok-top.ensures.checks zeros ones marks))
      c.in_ok-top.ensures.top c.in_ok-push.ensures.items;
}

pub returns-clause-checks : goal.returns-clause-checks
returns-clause-checks c = search (rules, arith, elements_fine)
