use Rattle.std.proofs.Common.{◌≡◌, vec_len}
use Rattle.file_tests.proofs.of_anf_printer.names_of.Given as goal

abbrev pub invariant-loop-text : goal.invariant-loop-text
invariant-loop-text l = vec_len l.names ≡ l.text-index
