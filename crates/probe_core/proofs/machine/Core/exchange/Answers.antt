use Rattle.std.proofs.Common.{arith, pow_mono}
use Rattle.std.proofs.lemmas.Grind.{common_steps}
use Rattle.probe_core.proofs.EventLemmas.{within}
use Rattle.probe_core.proofs.machine.Core.exchange.Goals as goal

pub index-requires : goal.index-requires
index-requires c = grind (arith, within _ _ _ _ c.requires.1)

pub load-requires : goal.load-requires
load-requires c = (c.requires.0, grind (arith, within _ _ _ _ c.requires.1))

pub meet-requires : goal.meet-requires
meet-requires c = grind (arith, pow_mono, within _ _ _ _ c.requires.1)

pub index_mut-requires-2 : goal.index_mut-requires-2
index_mut-requires-2 c = grind (arith, within _ _ _ _ c.requires.1)

pub returns-then-not-vacant : goal.returns-then-not-vacant
returns-then-not-vacant c = grind (arith, common_steps, within _ _ _ _ c.requires.1)

pub returns-in_err-meet-clause-inside : goal.returns-in_err-meet-clause-inside
returns-in_err-meet-clause-inside c = grind (arith, within _ _ _ _ c.requires.1)

pub returns-clause-inside : goal.returns-clause-inside
returns-clause-inside c = grind (arith, within _ _ _ _ c.requires.1)
