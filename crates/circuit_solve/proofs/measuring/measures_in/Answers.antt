use Rattle.aig_reader.specs.Reading.{circuit}
use Rattle.circuit_solve.proofs.MeasureSteps.{measures_given}
use Rattle.circuit_solve.proofs.measuring.measures_in.Goals as goal

pub answers-requires-clause-planned : goal.answers-requires-clause-planned
answers-requires-clause-planned g c = rw c.requires.plan (λ f i. i)

pub measures_of-requires : goal.measures_of-requires
measures_of-requires g c = rw c.deref.ensures.value c.in_ok-found.ensures.found.known

pub returns : goal.returns
returns g c =
    measures_given (circuit c.args.aig.now) c.args.care c.requires.vars c.in_ok-found.ensures.grows
    (g.met.S.Store.sound c.answers.new.store) c.in_ok-found.found c.in_ok-found.ensures.found _ c.deref.ensures.value _
    c.in_ok-measures_of.ensures
