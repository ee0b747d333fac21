use Rattle.std.proofs.Common.{◌+◌, ◌*◌}
use Rattle.fork_branches.specs.Work.{size_of}
use Rattle.fork_branches.proofs.crews.+crews.Given as goal

-- each branch has a smaller crew
abbrev pub decreases-work_both : goal.decreases-work_both
decreases-work_both g l = 4 * (size_of l.first.value + size_of l.second.value) + 3

abbrev pub decreases-work_both-front : goal.decreases-work_both-front
decreases-work_both-front g l = 4 * size_of l.first.value + 2

abbrev pub decreases-work_both-back : goal.decreases-work_both-back
decreases-work_both-back g l = 4 * size_of l.second.value + 2

abbrev pub decreases-work_on : goal.decreases-work_on
decreases-work_on g l = 4 * size_of l.crew.value + 1

abbrev pub decreases-work_in : goal.decreases-work_in
decreases-work_in g l = 4 * size_of l.crew.now
