use Rattle.node_store.specs.AnyFamily.{MayHoldAny}
use Rattle.unique_table.specs.PassOf.{pass_state}
use Rattle.thread_tests.proofs.of_unique_table.four_threads_agree.Given as goal

abbrev pub invariant-loop-thread : goal.invariant-loop-thread
invariant-loop-thread g l = MayHoldAny 4 (pass_state l.pass)
