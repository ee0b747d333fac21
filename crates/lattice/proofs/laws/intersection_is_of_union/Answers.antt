use Rattle.lattice.proofs.Ideals.{intersection_law}
use Rattle.lattice.proofs.laws.intersection_is_of_union.Goals as goal

pub returns : goal.returns
returns c = intersection_law
