use Rattle.std.proofs.Common.{◌+◌, ◌*◌}
use Rattle.fork_branches.proofs.ones.+ones.Given as goal

-- each branch has fewer workers
abbrev pub decreases-ones_both : goal.decreases-ones_both
decreases-ones_both g l = 6 * l.workers

abbrev pub decreases-ones_both-front : goal.decreases-ones_both-front
decreases-ones_both-front g l = 6 * l.more + 5

abbrev pub decreases-ones_both-back : goal.decreases-ones_both-back
decreases-ones_both-back g l = 6 * l.fewer + 5

abbrev pub decreases-ones_on : goal.decreases-ones_on
decreases-ones_on g l = 6 * l.workers + 4

abbrev pub decreases-with_on : goal.decreases-with_on
decreases-with_on g l = 6 * l.workers + 4

abbrev pub decreases-with_in : goal.decreases-with_in
decreases-with_in g l = 6 * l.workers + 3

abbrev pub decreases-ones_in : goal.decreases-ones_in
decreases-ones_in g l = 6 * l.workers + 2

abbrev pub decreases-ones_halves : goal.decreases-ones_halves
decreases-ones_halves g l = 6 * l.workers + 1
