use Rattle.std.proofs.Common.{sym, ◌∙◌}
use Rattle.std.proofs.lemmas.List.{nil_from_length}
use Rattle.std.proofs.lemmas.Bool.{eqb-true}
use Rattle.cert_check.proofs.Verdicts.{empty_is}
use Rattle.nf_run.proofs.QueryLines.{all_read, line_added, line_refused, line_skipped, none_read}
use Rattle.nf_run.proofs.reading.read_lines.Goals as goal

pub loop-rest-init : goal.loop-rest-init
loop-rest-init c = none_read _ _ _ _ c.new-queries.ensures

pub loop-rest-preserved-in-Continue-1 : goal.loop-rest-preserved-in-Continue-1
loop-rest-preserved-in-Continue-1 c =
    let e = c.split_line.ensures in
    line_added _ _ _ _ _ _ c.loop-rest.invariant _ _ _ e.first e.some e.all c.bare-line.ensures
    (empty_is _ _ c.is_empty-in-loop-rest.ensures) c.if-not-is_empty.true c.in-Ok.ensures.query.0 c.in-Ok.ensures.query.1
    c.in-Ok.ensures.over c.in_ok-push.ensures.ok

pub returns-in-Err : goal.returns-in-Err
returns-in-Err c =
    let e = c.split_line.ensures in
    record {
      reading = rw c.of_line.ensures (line_refused _ _ _ _ _ _ c.loop-rest.invariant _ _ _ e.first e.some e.all c.bare-line.ensures
          (empty_is _ _ c.is_empty-in-loop-rest.ensures) c.in-Err.refusal c.if-not-is_empty.true c.in-Err.ensures.query);
      over = tt;
    }

pub loop-rest-preserved : goal.loop-rest-preserved
loop-rest-preserved c =
    let e = c.split_line.ensures in
    line_skipped _ _ _ _ _ _ c.loop-rest.invariant _ _ _ e.first e.some e.all c.bare-line.ensures
    (empty_is _ _ c.is_empty-in-loop-rest.ensures) c.if-not-is_empty.false

pub returns : goal.returns
returns c = record {
  reading = all_read _ _ _ _ _ _ c.loop-rest.invariant
      (nil_from_length c.loop-rest.rest.now (eqb-true _ _ (sym c.is_empty.ensures ∙ c.loop-rest-test.false)));
  over = c.loop-rest.invariant.over;
}
