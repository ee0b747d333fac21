use Rattle.std.proofs.Common.{take}
use Rattle.std.specs.List.{All}
use Rattle.pla_reader.specs.Description.{FitsSizes}
use Rattle.file_tests.proofs.of_cube_sets.all_fit.Given as goal

abbrev pub invariant-loop-row : goal.invariant-loop-row
invariant-loop-row l = All (FitsSizes l.inputs l.outputs l.kind) (take l.row-index l.rows)
