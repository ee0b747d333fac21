use Rattle.aig_reader.specs.Reading.{circuit}
use Rattle.circuit_solve.proofs.MeasureSteps.{measures_are}
use Rattle.circuit_solve.proofs.measuring.measure_circuit.Goals as goal

pub returns-clause-measures : goal.returns-clause-measures
returns-clause-measures c =
    measures_are (circuit c.args.aig.now) c.args.care (record { fits = c.args.aig.now.fits; within = c.requires.care })
    c.measures_within.result c.measures_within.ensures
