use Rattle.std.proofs.Common.{◌≡◌, map}
use Rattle.lattice.specs.Family.{numbers_below}
use Rattle.aig_reader.specs.Reading.{circuit}
use Rattle.aig_miter.specs.Miter.{miter_output}
use Rattle.aig_miter.proofs.pairing.miter_outputs.Given as goal

abbrev pub invariant-loop-position : goal.invariant-loop-position
invariant-loop-position l = l.outputs ≡ map (miter_output (circuit l.first) (circuit l.second) l.care) (numbers_below l.position)
