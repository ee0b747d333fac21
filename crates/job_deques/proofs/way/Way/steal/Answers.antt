use Rattle.job_deques.proofs.Keeps.{takes}
use Rattle.job_deques.proofs.way.Way.steal.Goals as goal

pub steal_as-requires-clause-takes : goal.steal_as-requires-clause-takes
steal_as-requires-clause-takes c = takes _ _ c.loop-try.self.part
