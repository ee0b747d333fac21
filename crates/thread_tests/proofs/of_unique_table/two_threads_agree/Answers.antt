use Rattle.unique_table.specs.Passes.{token_state}
use Rattle.thread_tests.proofs.TestedStores.{any_first}
use Rattle.thread_tests.proofs.of_unique_table.two_threads_agree.Goals as goal

pub work_twice-requires-clause-any : goal.work_twice-requires-clause-any
work_twice-requires-clause-any g c _ = any_first (token_state c.in_ok-table.token) _ 4 3 _ c.in_ok-table.ensures.state c.any_plan.ensures
