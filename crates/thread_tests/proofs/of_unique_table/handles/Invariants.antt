use Rattle.node_store.specs.Stores.{Grows}
use Rattle.node_store.specs.AnyFamily.{MayHoldAny}
use Rattle.thread_tests.proofs.of_unique_table.handles.Given as goal

abbrev pub invariant-loop-number : goal.invariant-loop-number
invariant-loop-number g l = Grows (g.S.Store.state l.initial.store) (g.S.Store.state l.store) × MayHoldAny l.vars (g.S.Store.state l.store)
