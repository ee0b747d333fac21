use Rattle.set_algebra.proofs.Calls.{call_failed}
use Rattle.nf_run.proofs.ReducedSteps.{after_given, least_planned, ones_planned, reduced_given, reduced_right, terms_planned}
use Rattle.nf_run.proofs.reduction.reduce_polynomial.Goals as goal

pub polynomial_of-requires-clause-planned : goal.polynomial_of-requires-clause-planned
polynomial_of-requires-clause-planned g c =
    terms_planned c.args.points c.args.terms.now (g.met.S.Store.sound c.args.store.now) c.requires.known c.requires.planned

pub ones_of-requires-clause-planned : goal.ones_of-requires-clause-planned
ones_of-requires-clause-planned g c =
    ones_planned c.args.points c.args.terms.now (g.met.S.Store.sound c.args.store.now) c.requires.known c.requires.planned
    c.in_ok-given.ensures

pub returns-in_err-ones-clause-gives : goal.returns-in_err-ones-clause-gives
returns-in_err-ones-clause-gives g c =
    let k = after_given c.args.points c.args.terms.now (g.met.S.Store.sound c.args.store.now) c.requires.known c.requires.planned
    c.in_ok-given.ensures in
    call_failed k c.from_residual-in_err-ones.ensures.0 c.in_err-ones.ensures

pub least_by-requires-clause-planned : goal.least_by-requires-clause-planned
least_by-requires-clause-planned g c =
    least_planned c.args.points c.args.terms.now (g.met.S.Store.sound c.args.store.now) c.requires.known c.requires.planned
    c.in_ok-given.ensures (g.met.S.Store.sound c.ones_of.new.store) c.in_ok-ones.ensures

pub returns : goal.returns
returns g c =
    let s = g.S.Store.state c.args.store.now in let sound = g.met.S.Store.sound c.args.store.now in
    let gives = reduced_given c.args.points c.args.terms.now sound c.requires.known c.requires.planned c.in_ok-given.ensures
    (g.met.S.Store.sound c.ones_of.new.store) c.in_ok-ones.ensures c.least_by.result c.least_by.ensures.result in
    record {
      gives = gives;
      least = reduced_right s c.args.points c.args.terms.now c.requires.known sound c.least_by.result gives;
    }
