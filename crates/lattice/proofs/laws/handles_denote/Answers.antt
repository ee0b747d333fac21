use Rattle.lattice.proofs.laws.handles_denote.Goals as goal

pub returns : goal.returns
returns c bits vars h ws can is = Rattle.lattice.proofs.Tables.denoted bits vars ws can h is
