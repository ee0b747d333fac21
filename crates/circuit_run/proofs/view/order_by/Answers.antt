use Rattle.std.proofs.Common.{◌∙◌, Some, ap, sym}
use Rattle.std.specs.Prelude.{Err}
use Rattle.circuit_run.proofs.Seeing.{order_given, order_refused}
use Rattle.circuit_run.proofs.view.order_by.Goals as goal

pub returns-in-Ok-clause-order : goal.returns-in-Ok-clause-order
returns-in-Ok-clause-order c = order_given c.args.names.now c.as_slice.result.now (c.in-Some.is ∙ ap Some (sym c.as_slice.ensures))
    c.in-Ok.ensures.order c.in-Ok.ensures.good

pub returns-in-Err-clause-order : goal.returns-in-Err-clause-order
returns-in-Err-clause-order c = rw c.refuse.ensures (order_refused c.args.names.now c.as_slice.result.now
    (c.in-Some.is ∙ ap Some (sym c.as_slice.ensures)) c.in-Err.refusal (λ is. c.in-Err.ensures.bad (ap Err is)))
