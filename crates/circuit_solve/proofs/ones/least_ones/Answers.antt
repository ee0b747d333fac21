use Rattle.aig_reader.specs.Reading.{circuit}
use Rattle.circuit_solve.proofs.OneSteps.{ones_found}
use Rattle.circuit_solve.proofs.ones.least_ones.Goals as goal

pub returns-clause-found : goal.returns-clause-found
returns-clause-found c =
    ones_found (circuit c.args.aig.now) c.args.care (record { fits = c.args.aig.now.fits; within = c.requires.care })
    c.least_ones_within.result c.least_ones_within.ensures
