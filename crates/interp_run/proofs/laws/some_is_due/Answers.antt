use Rattle.cube_sets.proofs.OneClash.{searched}
use Rattle.interp_run.proofs.Due.{mode_cases, some_due}
use Rattle.interp_run.proofs.laws.some_is_due.Goals as goal

pub returns : goal.returns
returns c = λ job bytes file.
    some_due c.args.pla.now job bytes (searched c.args.pla.now c.conflict.result (c.conflict.ensures.none.0) c.conflict.ensures.least)
    (mode_cases job.mode) file
