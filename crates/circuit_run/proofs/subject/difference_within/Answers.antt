use Rattle.std.proofs.Common.{ap}
use Rattle.std.specs.Prelude.{Err}
use Rattle.aig_reader.specs.Reading.{circuit}
use Rattle.circuit_run.proofs.Subjects.{miter_found, miter_large}
use Rattle.circuit_run.proofs.subject.difference_within.Goals as goal

pub returns-in-Ok : goal.returns-in-Ok
returns-in-Ok c = miter_found (circuit c.args.first.now) (circuit c.args.second.now) c.args.care (circuit c.in-Ok.aig) c.in-Ok.ensures.miter
    c.in-Ok.aig.fits.few_gates

pub returns-in-Err-TooManyGates : goal.returns-in-Err-TooManyGates
returns-in-Err-TooManyGates c = miter_large (circuit c.args.first.now) (circuit c.args.second.now) c.args.care
    (c.in-Err-TooManyGates.ensures.large.0 (ap Err c.in-Err-TooManyGates.field-0-is))
