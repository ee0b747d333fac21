use Rattle.lattice.proofs.Ideals.{leads_law}
use Rattle.lattice.proofs.laws.leads_of_ideal.Goals as goal

pub returns : goal.returns
returns c = leads_law
