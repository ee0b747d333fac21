use Rattle.std.proofs.Common.{◌≡◌, length}
use Rattle.lattice.specs.Words.{is_distinct}
use Rattle.pla_reader.proofs.names.are_distinct.Given as goal

abbrev pub invariant-loop-rest : goal.invariant-loop-rest
invariant-loop-rest l = is_distinct l.rest ≡ is_distinct l.fn.names

abbrev pub decreases-loop-rest : goal.decreases-loop-rest
decreases-loop-rest l = length l.rest
