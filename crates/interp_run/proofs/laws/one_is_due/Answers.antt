use Rattle.program.proofs.Endings.{one_is_due}
use Rattle.interp_run.specs.Duty.{interp_duty}
use Rattle.interp_run.proofs.Due.{interp_lawful}
use Rattle.interp_run.proofs.laws.one_is_due.Goals as goal

pub returns-clause-one : goal.returns-clause-one
returns-clause-one c = one_is_due interp_duty interp_lawful

pub returns-clause-lawful : goal.returns-clause-lawful
returns-clause-lawful c = interp_lawful
