use Rattle.std.proofs.Common.{map, reverse}
use Rattle.std.specs.List.{All}
use Rattle.lattice.specs.Words.{IsFamily}
use Rattle.file_tests.proofs.of_anf_printer.shown.Given as goal

abbrev pub invariant-loop-element : goal.invariant-loop-element
invariant-loop-element l = All (IsFamily l.inputs) (map reverse l.basis)
