use Rattle.lattice.proofs.Ideals.{sum_law}
use Rattle.lattice.proofs.laws.sum_is_of_intersection.Goals as goal

pub returns : goal.returns
returns c = sum_law
