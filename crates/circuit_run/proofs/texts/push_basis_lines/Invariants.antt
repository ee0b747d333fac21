use Rattle.std.proofs.Common.{◌≡◌, ◌++◌, map, reverse, take}
use Rattle.anf_printer.specs.Text.{shown_line}
use Rattle.anf_printer.specs.declared.lines.Left.TheVariants.{Zero}
use Rattle.circuit_run.proofs.texts.push_basis_lines.Given as goal

abbrev pub invariant-loop-terms : goal.invariant-loop-terms
invariant-loop-terms l = map shown_line l.lines.items
    ≡ map shown_line l.fn.lines.items ++ map (λ element. (Zero, element)) (map reverse (take l.terms-index l.basis))
