use Rattle.interp_run.specs.Answers.{notes_from}
use Rattle.interp_run.proofs.Written.{notes_next}
use Rattle.interp_run.proofs.answer.make_notes.Goals as goal

pub loop-before-init : goal.loop-before-init
unfolding notes_from
loop-before-init c = c.new-notes.ensures.items

pub loop-before-preserved : goal.loop-before-preserved
loop-before-preserved c = notes_next c.args.shown.now c.loop-before.before c.index-shown-before.result c.loop-before.notes.items _
    c.loop-before-test.true c.index-shown-before.is c.loop-before.invariant
    (rw (c.as_slice.ensures, c.as_slice-in-loop-before.ensures) at c.in_ok-push.ensures.items)
