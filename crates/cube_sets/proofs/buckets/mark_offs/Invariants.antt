use Rattle.std.proofs.Common.{take}
use Rattle.std.specs.List.{All}
use Rattle.cube_sets.specs.Buckets.{IsMarked}
use Rattle.cube_sets.proofs.buckets.mark_offs.Given as goal

abbrev pub invariant-loop-row : goal.invariant-loop-row
invariant-loop-row l = All (IsMarked l.buckets l.common l.offs) (take l.row-index l.rows)
