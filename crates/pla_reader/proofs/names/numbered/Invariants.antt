use Rattle.std.proofs.Common.{◌≡◌}
use Rattle.pla_reader.specs.PrintedNames.{numbered}
use Rattle.pla_reader.proofs.names.numbered.Given as goal

abbrev pub invariant-loop-i : goal.invariant-loop-i
invariant-loop-i l = l.names ≡ numbered l.letter l.i
