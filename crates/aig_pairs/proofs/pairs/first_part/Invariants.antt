use Rattle.aig_pairs.specs.Pairs.{NoneBelow}
use Rattle.aig_pairs.proofs.pairs.first_part.Given as goal

abbrev pub invariant-loop-at : goal.invariant-loop-at
invariant-loop-at l = NoneBelow l.bytes l.at
