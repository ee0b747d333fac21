use Rattle.std.proofs.Common.{append-nil, append_assoc, sym}
use Rattle.lattice.specs.Words.{numbers_below}
use Rattle.interp_run.specs.Phases.{task}
use Rattle.interp_run.proofs.OutputLists.{outputs_more}
use Rattle.interp_run.proofs.phases.push_part.Goals as goal

pub loop-before-init : goal.loop-before-init
unfolding numbers_below
loop-before-init c = sym (append-nil c.args.tasks.items)

pub loop-before-preserved : goal.loop-before-preserved
loop-before-preserved c =
    rw (c.in_ok-push.ensures.items, c.loop-before.invariant, outputs_more (task c.args.part.now) c.loop-before.before, append_assoc)
