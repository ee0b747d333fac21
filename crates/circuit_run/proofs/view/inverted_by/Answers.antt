use Rattle.std.proofs.Common.{◌∙◌, Some, ap, sym}
use Rattle.std.specs.Prelude.{Err}
use Rattle.circuit_run.proofs.Seeing.{inverted_count, inverted_given, inverted_refused}
use Rattle.circuit_run.proofs.view.inverted_by.Goals as goal

pub returns-in-Ok-clause-inverted : goal.returns-in-Ok-clause-inverted
returns-in-Ok-clause-inverted c = inverted_given c.args.names.now c.as_slice.result.now
    (c.in-Some.is ∙ ap Some (sym c.as_slice.ensures)) c.in-Ok.ensures.named c.in-Ok.ensures.good

pub returns-in-Ok-clause-count : goal.returns-in-Ok-clause-count
returns-in-Ok-clause-count c = inverted_count c.args.names.now c.args.text.now (inverted_given c.args.names.now c.as_slice.result.now
    (c.in-Some.is ∙ ap Some (sym c.as_slice.ensures)) c.in-Ok.ensures.named c.in-Ok.ensures.good)

pub returns-in-Err-clause-inverted : goal.returns-in-Err-clause-inverted
returns-in-Err-clause-inverted c = rw c.refuse.ensures (inverted_refused c.args.names.now c.as_slice.result.now
    (c.in-Some.is ∙ ap Some (sym c.as_slice.ensures)) c.in-Err.refusal (λ is. c.in-Err.ensures.bad (ap Err is)))
