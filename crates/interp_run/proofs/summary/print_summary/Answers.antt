use Rattle.std.proofs.Common.{append-nil, codes, decimal, sym, take_all, ◌++◌, ◌∙◌}
use Rattle.interp_run.proofs.Written.{line_next}
use Rattle.interp_run.proofs.summary.print_summary.Goals as goal

pub loop-before-init : goal.loop-before-init
loop-before-init c = c.in_ok-text.ensures ∙ sym (append-nil (codes "points " ++ decimal c.args.points ++ codes "\n"))

pub loop-before-preserved : goal.loop-before-preserved
loop-before-preserved c =
    line_next c.args.shown.now c.loop-before.before c.index-shown-before.result (codes "points " ++ decimal c.args.points ++ codes "\n")
    c.loop-before.text.items _ c.loop-before-test.true c.index-shown-before.is c.loop-before.invariant
    (rw c.as_slice.ensures at c.in_ok-push_line.ensures)

pub returns : goal.returns
returns c = c.from_vec.ensures ∙ rw (take_all c.loop-before.before c.args.shown.now c.loop-before-test.false) at c.loop-before.invariant
