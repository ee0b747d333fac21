use Rattle.thread_tests.proofs.NotedJobs.{parity_gives}
use Rattle.thread_tests.proofs.of_fork_branches.NotedJobs.one.Goals as goal

pub returns-clause-result : goal.returns-clause-result
returns-clause-result g c =
    parity_gives (g.S.Store.state c.args.store.now) c.args.self.now.count c.args.number (g.met.S.Store.sound c.args.store.now)
