use Rattle.std.proofs.Common.{sym, ◌∙◌, arith, rules}
use Rattle.std.proofs.lemmas.Result.{err_from_is_err_and}
use Rattle.cert_check.proofs.LinesRead.{bad_line, left_stops, right_stops, no_fault, adds_element, adds_output}
use Rattle.cert_check.proofs.reading.add_line.Goals as goal

pub returns-in_default : goal.returns-in_default
returns-in_default c = bad_line _ _ _ _ c.in_default.ensures

pub returns-in_err-check_left : goal.returns-in_err-check_left
returns-in_err-check_left c = search (rules, arith, err_from_is_err_and, left_stops)

pub returns-in_err-read_right : goal.returns-in_err-read_right
returns-in_err-read_right c = search (rules, arith, err_from_is_err_and, right_stops)

pub returns-in_ok-add_element : goal.returns-in_ok-add_element
returns-in_ok-add_element c =
    let fine = rw (c.len.ensures, c.args.outputs.now.ok.0) at c.in_ok-check_left.ensures in (
      no_fault _ _ _ _ _ c.in-Some.right.now c.in-Some.ensures.0 c.in-Some.ensures.1 fine c.in_ok-read_right.ensures.0,
      adds_element _ c.args.outs.now 0 _ _ c.in-Some.right.now c.in-Some.ensures.0 c.in-Some.ensures.1 _ _ _ _
          (sym c.is_element.ensures ∙ c.if-is_element.true) c.in_ok-read_right.ensures.1 c.in_ok-add_element.ensures,
    )

pub returns-in_ok-push : goal.returns-in_ok-push
returns-in_ok-push c =
    let fine = rw (c.len.ensures, c.args.outputs.now.ok.0) at c.in_ok-check_left.ensures in (
      no_fault _ _ _ _ _ c.in-Some.right.now c.in-Some.ensures.0 c.in-Some.ensures.1 fine c.in_ok-read_right.ensures.0,
      adds_output _ c.args.outs.now 0 _ _ c.in-Some.right.now c.in-Some.ensures.0 c.in-Some.ensures.1 _ _ _ _ c.new.result
          (sym c.is_element.ensures ∙ c.if-is_element.false) c.in_ok-read_right.ensures.1 c.new.ensures c.in_ok-push.ensures.items,
    )
