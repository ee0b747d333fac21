use Rattle.program.proofs.Endings.{one_is_due}
use Rattle.circuit_run.specs.Duty.{circuit_duty}
use Rattle.circuit_run.proofs.Endings.{circuit_lawful}
use Rattle.circuit_run.proofs.laws.one_is_due.Goals as goal

pub returns-clause-one : goal.returns-clause-one
returns-clause-one c = one_is_due circuit_duty circuit_lawful

pub returns-clause-lawful : goal.returns-clause-lawful
returns-clause-lawful c = circuit_lawful
