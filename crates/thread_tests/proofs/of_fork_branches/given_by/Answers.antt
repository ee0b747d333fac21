use Rattle.std.proofs.Common.{◌∙◌}
use Rattle.thread_tests.proofs.TestedStores.{any_first}
use Rattle.computed_cache.specs.Cached.{cached_state}
use Rattle.thread_tests.proofs.of_fork_branches.given_by.Goals as goal

pub given-requires-clause-any : goal.given-requires-clause-any
given-requires-clause-any g c = any_first (cached_state c.new-pass.result) _ 8 3 _
    (c.new-pass.ensures.state ∙ (c.pass.ensures.state ∙ c.in_ok-table.ensures.state)) c.any_plan.ensures
