use Rattle.lattice.proofs.Ideals.{basis_law}
use Rattle.lattice.proofs.laws.basis_of_ideal.Goals as goal

pub returns : goal.returns
returns c = basis_law
