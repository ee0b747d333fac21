use Rattle.lattice.proofs.laws.agreement_stays.Goals as goal

pub returns : goal.returns
returns c vars ws later known keeps agrees h f is = Rattle.lattice.proofs.Tables.denotes_grows vars ws later keeps (agrees h f is)
