use Rattle.circuit_run.proofs.PrintedLines.{difference_line}
use Rattle.circuit_run.proofs.equal.push_equal_line.Goals as goal

pub returns-in_ok-push-in-Some : goal.returns-in_ok-push-in-Some
returns-in_ok-push-in-Some c = rw c.in-Some.is (difference_line _ _ _ _ _ _ _ c.in_ok-extend_from_slice.ensures.items
    c.in_ok-extend_from_slice-in-Some.ensures.items c.in_ok-push_point-in-Some.ensures c.in_ok-push-in-Some.ensures.items)
