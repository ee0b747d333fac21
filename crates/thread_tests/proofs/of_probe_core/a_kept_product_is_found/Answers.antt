use Rattle.thread_tests.proofs.WorkedEvents.{may_keep}
use Rattle.thread_tests.proofs.of_probe_core.a_kept_product_is_found.Goals as goal

pub run-requires-clause-events : goal.run-requires-clause-events
run-requires-clause-events g c = may_keep
