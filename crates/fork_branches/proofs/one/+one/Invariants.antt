use Rattle.std.proofs.Common.{◌+◌, ◌*◌}
use Rattle.fork_branches.proofs.one.+one.Given as goal

-- each branch has fewer workers
abbrev pub decreases-run_both : goal.decreases-run_both
decreases-run_both g l = 4 * l.workers

abbrev pub decreases-run_both-front : goal.decreases-run_both-front
decreases-run_both-front g l = 4 * l.more + 3

abbrev pub decreases-run_both-back : goal.decreases-run_both-back
decreases-run_both-back g l = 4 * l.fewer + 3

abbrev pub decreases-run_on : goal.decreases-run_on
decreases-run_on g l = 4 * l.workers + 2

abbrev pub decreases-run_in : goal.decreases-run_in
decreases-run_in g l = 4 * l.workers + 1
