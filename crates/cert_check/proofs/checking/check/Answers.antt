use Rattle.std.proofs.Common.{ap, sym, ◌∙◌}
use Rattle.pla_reader.specs.Reading.{description}
use Rattle.cert_check.specs.Faults.{verdict_on}
use Rattle.cert_check.proofs.RightAnswers.{verdict_tells}
use Rattle.cert_check.proofs.checking.check.Goals as goal

pub returns-in-Ok-clause-right : goal.returns-in-Ok-clause-right
returns-in-Ok-clause-right c = verdict_tells (description c.args.p.now) c.args.a.now _ c.requires
    (ap (verdict_on (description c.args.p.now)) (sym c.as_slice.ensures) ∙ c.in-Ok.ensures)

pub returns-in-Err-Fault-clause-right : goal.returns-in-Err-Fault-clause-right
returns-in-Err-Fault-clause-right c = verdict_tells (description c.args.p.now) c.args.a.now _ c.requires
    (ap (verdict_on (description c.args.p.now)) (sym c.as_slice.ensures) ∙ (rw c.in-Err-Fault.field-0-is at c.in-Err-Fault.ensures))
