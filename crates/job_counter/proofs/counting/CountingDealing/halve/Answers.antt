use Rattle.std.proofs.Common.{◌-◌, ◌/◌, ◌∙◌, ap, arith}
use Rattle.job_counter.specs.Drawing.{drawing, zeros}
use Rattle.job_counter.specs.declared.counter.TheConstants.{ALL_PARTS}
use Rattle.job_counter.proofs.Dealt.{length-zeros, zeros-append}
use Rattle.job_counter.proofs.counting.CountingDealing.halve.Goals as goal

pub returns-clause-shares : goal.returns-clause-shares
returns-clause-shares c =
    rw (c.split-other.ensures.left, c.split-other.ensures.right)
    (let parts = (drawing c.args.hand.drawer).parts in zeros-append (parts - parts / 2) (parts / 2) ∙ ap zeros (omega arith))

pub returns-clause-few : goal.returns-clause-few
returns-clause-few c = omega (arith, length-zeros (drawing c.args.hand.drawer).parts, length-zeros ALL_PARTS, c.args.hand.few)
