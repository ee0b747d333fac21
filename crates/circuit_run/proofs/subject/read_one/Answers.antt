use Rattle.std.specs.Prelude.{Err, Ok}
use Rattle.aig_reader.specs.Reading.{circuit}
use Rattle.circuit_run.specs.Subjects.{of_one}
use Rattle.circuit_run.proofs.subject.read_one.Goals as goal

pub returns-in-Ok-clause-ok : goal.returns-in-Ok-clause-ok
returns-in-Ok-clause-ok c = of_one (Ok (circuit c.in-Ok.aig)) c.requires.mode c.in-Ok.ensures

pub returns-in-Err-Bad-clause-err : goal.returns-in-Err-Bad-clause-err
returns-in-Err-Bad-clause-err c = rw c.refused.ensures
    (of_one (Err c.in-Err-Bad.refusal) c.requires.mode (rw c.in-Err-Bad.field-0-is at c.in-Err-Bad.ensures))
