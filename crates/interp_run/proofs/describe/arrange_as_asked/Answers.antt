use Rattle.std.proofs.Common.{◌∙◌, Some, ap, sym}
use Rattle.std.specs.Prelude.{Err}
use Rattle.interp_run.proofs.Due.{by_no_order, by_order}
use Rattle.interp_run.proofs.describe.arrange_as_asked.Goals as goal

pub arrange-requires : goal.arrange-requires
arrange-requires c = rw c.in-Ok.ensures.order c.in-Ok.ensures.good

pub returns-in-Err-clause-err : goal.returns-in-Err-clause-err
returns-in-Err-clause-err c = rw c.end_disordered.ensures (by_no_order c.args.pla c.as_slice.result.now c.args.job.now.order
    (c.in-Some.is ∙ ap Some (sym c.as_slice.ensures)) c.in-Err.refusal (λ is. c.in-Err.ensures.bad (ap Err is)))

pub returns-in-Ok-arrange-clause-ok : goal.returns-in-Ok-arrange-clause-ok
returns-in-Ok-arrange-clause-ok c = by_order c.args.pla c.as_slice.result.now c.args.job.now.order
    (c.in-Some.is ∙ ap Some (sym c.as_slice.ensures)) c.in-Ok-arrange.file c.in-Ok.order c.in-Ok.ensures.order
    c.in-Ok.ensures.good c.in-Ok-arrange.ensures
