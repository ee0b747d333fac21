use Rattle.cube_sets.proofs.Marks.{fixes_own}
use Rattle.cube_sets.proofs.buckets.fixed_by.Goals as goal

pub returns-else-row-eq0 : goal.returns-else-row-eq0
returns-else-row-eq0 c = fixes_own c.args.row.now
