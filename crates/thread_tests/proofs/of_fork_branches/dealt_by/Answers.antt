use Rattle.std.proofs.Common.{◌∙◌, ap}
use Rattle.node_store.specs.Stores.{State}
use Rattle.computed_cache.specs.Cached.{cached_state}
use Rattle.thread_tests.proofs.NotedJobs.{may_note}
use Rattle.thread_tests.proofs.of_fork_branches.dealt_by.Goals as goal

pub solve_by-requires-clause-may : goal.solve_by-requires-clause-may
solve_by-requires-clause-may g c κs within =
    let made = c.new-pass.ensures.state ∙ (c.pass.ensures.state ∙ c.in_ok-table.ensures.state) in
    may_note (cached_state c.new-pass.result) c.args.jobs.now.count c.requires.few (ap (λ (k : State). k.vars) made)
