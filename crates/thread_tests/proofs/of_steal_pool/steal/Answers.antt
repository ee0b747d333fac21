use Rattle.std.proofs.Common.{◌∙◌, ap}
use Rattle.node_store.specs.Stores.{State}
use Rattle.computed_cache.specs.Cached.{cached_state}
use Rattle.thread_tests.proofs.NotedJobs.{may_note}
use Rattle.thread_tests.proofs.of_steal_pool.steal.Goals as goal

pub steal_all-requires-clause-may : goal.steal_all-requires-clause-may
steal_all-requires-clause-may g c κs within =
    let made = c.new-pass.ensures.state ∙ (c.pass.ensures.state ∙ c.in_ok-table.ensures.state) in
    may_note (cached_state c.new-pass.result) c.args.jobs.now.count c.requires.few (ap (λ (k : State). k.vars) made)
