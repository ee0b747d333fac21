use Rattle.aig_reader.specs.Reading.{circuit}
use Rattle.circuit_solve.proofs.OneSteps.{asked_planned, last_planned, least_given, points_are_known}
use Rattle.circuit_solve.proofs.ones.least_ones_in.Goals as goal

pub asked_outputs-requires-clause-planned : goal.asked_outputs-requires-clause-planned
asked_outputs-requires-clause-planned g c = asked_planned (circuit c.args.aig.now) c.args.care c.requires.plan

pub least_ones_at-requires-clause-points : goal.least_ones_at-requires-clause-points
least_ones_at-requires-clause-points g c = let is = c.in_ok-asked.ensures in
    points_are_known (circuit c.args.aig.now) c.args.care c.requires.vars c.requires.plan is.grows c.in_ok-asked.asked is.found _
    c.deref.ensures.value

pub least_ones_at-requires-clause-polynomials : goal.least_ones_at-requires-clause-polynomials
least_ones_at-requires-clause-polynomials g c = rw c.deref.ensures.value c.in_ok-asked.ensures.found.known

pub least_ones_at-requires-clause-planned : goal.least_ones_at-requires-clause-planned
least_ones_at-requires-clause-planned g c = let is = c.in_ok-asked.ensures in
    last_planned (circuit c.args.aig.now) c.args.care c.requires.vars c.requires.plan is.grows c.in_ok-asked.asked is.found _
    c.deref.ensures.value

pub returns : goal.returns
returns g c = let is = c.in_ok-asked.ensures in let gives = c.least_ones_at.ensures in
    least_given (circuit c.args.aig.now) c.args.care c.requires.vars c.requires.plan is.grows c.in_ok-asked.asked is.found _
    c.deref.ensures.value c.least_ones_at.result (g.met.S.Store.sound c.least_ones_at.new.store) gives.grows gives.found gives.held
    gives.full
