use Rattle.aig_reader.specs.Reading.{circuit}
use Rattle.circuit_run.specs.Subjects.{other_inputs, other_outputs}
use Rattle.circuit_run.proofs.Subjects.{difference_found}
use Rattle.circuit_run.proofs.subject.compare.Goals as goal

pub returns-in-Ok : goal.returns-in-Ok
returns-in-Ok c = difference_found c.args.job.now (circuit c.args.first.now) (circuit c.args.second.now) (circuit c.in-Ok.over)
    c.in-Ok.ensures.matched c.difference_by.result c.difference_by.ensures

pub returns-in-Err-Inputs : goal.returns-in-Err-Inputs
returns-in-Err-Inputs c = other_inputs (rw c.in-Err-Inputs.field-0-is at c.in-Err-Inputs.ensures.matched)

pub returns-in-Err-Outputs : goal.returns-in-Err-Outputs
returns-in-Err-Outputs c = other_outputs (rw c.in-Err-Outputs.field-0-is at c.in-Err-Outputs.ensures.matched)
