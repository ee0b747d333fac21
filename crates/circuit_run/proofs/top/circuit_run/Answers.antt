use Rattle.std.proofs.Common.{rules}
use Rattle.circuit_run.proofs.Endings.{ran_from}
use Rattle.circuit_run.proofs.top.circuit_run.Goals as goal

pub returns-clause-ran : goal.returns-clause-ran
returns-clause-ran g c = let ran = c.run.ensures.ran in (ran.0, ran.1, ran_from (search rules) ran.2, ran.3)
