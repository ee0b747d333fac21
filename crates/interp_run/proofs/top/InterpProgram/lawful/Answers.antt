use Rattle.interp_run.proofs.Due.{interp_lawful}
use Rattle.interp_run.proofs.top.InterpProgram.lawful.Goals as goal

pub returns : goal.returns
returns g c = interp_lawful
