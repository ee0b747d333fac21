use Rattle.std.proofs.Common.{◌≡◌, ◌++◌}
use Rattle.std.specs.List.{flat_map}
use Rattle.lattice.specs.Family.{numbers_below}
use Rattle.aig_reader.specs.Reading.{circuit}
use Rattle.aig_miter.specs.Miter.{difference_at}
use Rattle.aig_miter.proofs.pairing.push_differences.Given as goal

abbrev pub invariant-loop-position : goal.invariant-loop-position
invariant-loop-position l =
    l.gates ≡ l.fn.gates ++ flat_map (difference_at (circuit l.first) (circuit l.second)) (numbers_below l.position)
