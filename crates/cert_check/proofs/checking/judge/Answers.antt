use Rattle.std.proofs.Common.{rules, ℕ, ◌+◌, ap, arith}
use Rattle.std.proofs.lemmas.Result.{err_from_is_err_and}
use Rattle.cert_check.proofs.RightAnswers.{output_fails, output_fine, outputs_fine}
use Rattle.cert_check.proofs.checking.judge.Goals as goal

pub judge_output-requires-clause-over : goal.judge_output-requires-clause-over
judge_output-requires-clause-over c = rw c.given-item.is (c.requires.answer.polynomials _ _ c.loop-given-test.true)

pub returns-in_err-judge_output : goal.returns-in_err-judge_output
returns-in_err-judge_output c =
    let p = err_from_is_err_and c.from_residual-in_err-judge_output.result c.from_residual-in_err-judge_output.ensures.1 in
    rw (p.1, p.2) (output_fails _ _ _ c.loop-given.invariant.goes_on _ _ c.loop-given-test.true c.given-item.is
    (ap (λ (k : ℕ). k + 1) c.loop-given.invariant.number) _ (c.in_err-judge_output.ensures _ _ (rw c.deref-in-loop-given.ensures.value
    (c.in_ok-care.ensures c.args.p.now.inputs c.args.p.now.rows
    (rw c.deref.ensures.value (rw c.as_slice.ensures at c.in_ok-marks.ensures))))))

pub loop-given-preserved : goal.loop-given-preserved
loop-given-preserved c = record {
  number = ap (λ (k : ℕ). k + 1) c.loop-given.invariant.number;
  goes_on = output_fine _ _ _ c.loop-given.invariant.goes_on _ _ c.loop-given-test.true c.given-item.is
      (ap (λ (k : ℕ). k + 1) c.loop-given.invariant.number) (c.in_ok-judge_output.ensures _ _ (rw c.deref-in-loop-given.ensures.value
      (c.in_ok-care.ensures c.args.p.now.inputs c.args.p.now.rows
      (rw c.deref.ensures.value (rw c.as_slice.ensures at c.in_ok-marks.ensures)))));
}

pub returns : goal.returns
returns c = search (rules, arith, outputs_fine)
