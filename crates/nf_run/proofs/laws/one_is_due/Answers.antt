use Rattle.program.proofs.Endings.{one_is_due}
use Rattle.nf_run.specs.Duty.{query_duty}
use Rattle.nf_run.proofs.Endings.{query_lawful}
use Rattle.nf_run.proofs.laws.one_is_due.Goals as goal

pub returns : goal.returns
returns c = λ bits. one_is_due (query_duty bits) (query_lawful bits)
