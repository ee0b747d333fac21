use Rattle.std.proofs.Common.{◌≡◌, [], take, drop}
use Rattle.lattice.specs.Words.{Family, union_of}
use Rattle.cert_check.specs.Marks.{MarksCare}
use Rattle.cert_check.specs.Faults.{first_verdict, greatest_of, basis_checks}
use Rattle.cert_check.proofs.checking.judge_elements.Given as goal

abbrev pub invariant-loop-element : goal.invariant-loop-element
invariant-loop-element l = record {
  tops_are : l.tops.items ≡ greatest_of (take l.element-index l.elements);
  goes_on : (zeros ones : Family) → MarksCare l.inputs zeros ones l.care → first_verdict
      (basis_checks (union_of l.inputs zeros ones) [] l.elements) ≡ first_verdict
      (basis_checks (union_of l.inputs zeros ones) l.tops.items (drop l.element-index l.elements));
}
