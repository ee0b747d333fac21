use Rattle.std.proofs.Common.{◌≡◌, ◌++◌, take, codes, map, reverse}
use Rattle.std.specs.List.{flat_map}
use Rattle.anf_printer.specs.Text.{line}
use Rattle.anf_printer.proofs.answer.push_elements.Given as goal

abbrev pub invariant-loop-terms : goal.invariant-loop-terms
invariant-loop-terms l = l.text.items ≡ l.fn.text.items ++ flat_map (line l.names (codes "0")) (map reverse (take l.terms-index l.elements))
