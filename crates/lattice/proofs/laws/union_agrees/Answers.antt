use Rattle.lattice.proofs.laws.union_agrees.Goals as goal

pub returns : goal.returns
returns c = Rattle.lattice.proofs.Tables.union_agrees
