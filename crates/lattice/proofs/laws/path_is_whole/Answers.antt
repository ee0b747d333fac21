use Rattle.lattice.proofs.laws.path_is_whole.Goals as goal

pub returns : goal.returns
returns c = λ bits w at least less. Rattle.lattice.proofs.Paths.path_is_whole bits w at least less
