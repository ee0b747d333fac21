use Rattle.lattice.proofs.laws.least_over_more.Goals as goal

pub returns : goal.returns
returns c = Rattle.lattice.proofs.Least.IsLeast_more
