use Rattle.std.proofs.Common.{rules, subst}
use Rattle.probe_core.specs.Soundness.{IsSoundMachine}
use Rattle.probe_core.proofs.EventLemmas.{start_sound}
use Rattle.probe_core.proofs.machine.Core.make.Goals as goal

pub returns-clause-sound : goal.returns-clause-sound
returns-clause-sound c = subst IsSoundMachine (search rules) (start_sound c.args.bits c.args.vars)
