use Rattle.std.proofs.Common.{refl}
use Rattle.thread_tests.proofs.of_probe_core.take_all.Goals as goal

pub loop-e-init : goal.loop-e-init
loop-e-init g c = rw c.in_ok-core.ensures.start ((λ may. may), refl)
