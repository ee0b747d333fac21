use Rattle.std.proofs.Common.{take}
use Rattle.std.specs.List.{All}
use Rattle.cube_sets.specs.Buckets.{Fixes}
use Rattle.cube_sets.proofs.buckets.common_care.Given as goal

abbrev pub invariant-loop-row : goal.invariant-loop-row
invariant-loop-row l = All (Fixes l.common) (take l.row-index l.rows)
