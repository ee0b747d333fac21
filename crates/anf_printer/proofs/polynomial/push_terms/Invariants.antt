use Rattle.std.proofs.Common.{◌≡◌, ◌++◌, ◌^◌, ◌<◌, take, codes, length}
use Rattle.std.specs.List.{flat_map}
use Rattle.anf_printer.specs.Text.{factors_text, monomial_text}
use Rattle.anf_printer.proofs.polynomial.push_terms.Given as goal

abbrev pub invariant-loop-term : goal.invariant-loop-term
invariant-loop-term l = record {
  below : l.last < 2 ^ length l.names;
  factors : l.factors.items ≡ factors_text l.names l.last;
  written : l.text.items ≡ l.fn.text.items ++ monomial_text l.names l.fn.first ++ flat_map (λ m. codes " + " ++ monomial_text l.names m)
      (take l.term-index l.others);
}
