use Rattle.std.proofs.Common.{◌≡◌, map}
use Rattle.file_tests.proofs.of_anf_printer.polynomial.Given as goal

abbrev pub invariant-loop-m : goal.invariant-loop-m
invariant-loop-m l = l.terms ≡ map (λ m. m.now) l.yielded
