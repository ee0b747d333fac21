use Rattle.std.proofs.Common.{◌-◌}
use Rattle.interp_run.proofs.solve.+seek_solution.Given as goal

abbrev pub decreases-seek_solution : goal.decreases-seek_solution
decreases-seek_solution g l = l.job.now.nodes - l.bits
