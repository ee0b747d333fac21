use Rattle.std.proofs.Common.{ℕ, ◌+◌, ◌<◌, map, get_or}
use Rattle.file_tests.proofs.of_cube_sets.lines_ascend.Given as goal

abbrev pub invariant-loop-i : goal.invariant-loop-i
invariant-loop-i l = (k : ℕ) → k + 1 < l.i → get_or (map (λ r. r.line) l.rows) k 0 < get_or (map (λ r. r.line) l.rows) (k + 1) 0
