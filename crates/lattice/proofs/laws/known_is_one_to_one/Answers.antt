use Rattle.lattice.proofs.laws.known_is_one_to_one.Goals as goal

pub returns : goal.returns
returns c = Rattle.lattice.proofs.Tables.known_one
