use Rattle.std.proofs.Common.{◌+◌, ◌*◌}
use Rattle.fork_branches.proofs.turned.+turned.Given as goal

-- each half is turned for one cut fewer
abbrev pub decreases-combine_halves : goal.decreases-combine_halves
decreases-combine_halves g l = 2 * l.cuts + 1

abbrev pub decreases-combine_turned : goal.decreases-combine_turned
decreases-combine_turned g l = 2 * l.cuts
