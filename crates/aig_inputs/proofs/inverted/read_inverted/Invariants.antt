use Rattle.std.proofs.Common.{length}
use Rattle.aig_inputs.specs.Names.{AreInputs}
use Rattle.aig_inputs.proofs.Naming.{AreMarks, first_named}
use Rattle.aig_inputs.proofs.inverted.read_inverted.Given as goal

abbrev pub invariant-loop-name : goal.invariant-loop-name
invariant-loop-name l = record {
  inputs : AreInputs (length l.names) (first_named l.names l.text (length l.yielded));
  marks : AreMarks (length l.names) (first_named l.names l.text (length l.yielded)) l.inverted.items;
}
