use Rattle.std.proofs.Common.{◌+◌, ◌*◌}
use Rattle.fork_branches.proofs.turned.+turned_ones.Given as goal

-- each half is turned for one cut fewer
abbrev pub decreases-ones_halves : goal.decreases-ones_halves
decreases-ones_halves g l = 3 * l.cuts + 2

abbrev pub decreases-with_turned : goal.decreases-with_turned
decreases-with_turned g l = 3 * l.cuts + 1

abbrev pub decreases-ones_turned : goal.decreases-ones_turned
decreases-ones_turned g l = 3 * l.cuts
