use Rattle.program.proofs.Endings.{one_is_due}
use Rattle.program.proofs.laws.one_is_due.Goals as goal

pub returns : goal.returns
returns g c = one_is_due (g.G.Program.duty c.args.program.now) c.lawful.ensures
