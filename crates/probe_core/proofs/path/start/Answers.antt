use Rattle.probe_core.proofs.Places.{start_below}
use Rattle.probe_core.proofs.path.start.Goals as goal

pub returns-clause-inside : goal.returns-clause-inside
returns-clause-inside c = start_below c.args.bits c.args.word c.requires.1
