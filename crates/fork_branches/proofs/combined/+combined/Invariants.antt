use Rattle.std.proofs.Common.{◌+◌, ◌*◌}
use Rattle.fork_branches.proofs.combined.+combined.Given as goal

-- each branch has fewer workers
abbrev pub decreases-combine_both : goal.decreases-combine_both
decreases-combine_both g l = 5 * l.workers

abbrev pub decreases-combine_both-front : goal.decreases-combine_both-front
decreases-combine_both-front g l = 5 * l.more + 4

abbrev pub decreases-combine_both-back : goal.decreases-combine_both-back
decreases-combine_both-back g l = 5 * l.fewer + 4

abbrev pub decreases-combine_on : goal.decreases-combine_on
decreases-combine_on g l = 5 * l.workers + 3

abbrev pub decreases-combine_in : goal.decreases-combine_in
decreases-combine_in g l = 5 * l.workers + 2

abbrev pub decreases-combine_halves : goal.decreases-combine_halves
decreases-combine_halves g l = 5 * l.workers + 1
