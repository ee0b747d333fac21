use Rattle.node_store.proofs.StoreLaws.{Grows-trans}
use Rattle.circuit_solve.proofs.OneSteps.{no_ones, one_more, ones_grow, ones_planned_there}
use Rattle.circuit_solve.proofs.ones.least_ones_at.Goals as goal

pub loop-polynomial-init : goal.loop-polynomial-init
loop-polynomial-init g c =
    rw c.new-found.ensures.items (no_ones (g.S.Store.state c.args.store.now) c.args.points c.args.polynomials.now)

pub ones_of-requires-clause-planned : goal.ones_of-requires-clause-planned
ones_of-requires-clause-planned g c =
    ones_planned_there (g.S.Store.state c.args.store.now) c.args.points c.args.polynomials.now c.requires.points c.requires.polynomials
    c.requires.planned c.loop-polynomial.polynomial-index c.loop-polynomial.invariant c.loop-polynomial-test.true

pub returns-in_err-ones-clause-grows : goal.returns-in_err-ones-clause-grows
returns-in_err-ones-clause-grows g c = Grows-trans _ _ _ c.loop-polynomial.invariant.grows c.ones_of.ensures.grows

pub returns-in_err-push-clause-grows : goal.returns-in_err-push-clause-grows
returns-in_err-push-clause-grows g c =
    ones_grow (g.S.Store.state c.args.store.now) c.args.points c.args.polynomials.now c.requires.points c.requires.polynomials
    c.requires.planned c.loop-polynomial.polynomial-index c.loop-polynomial.invariant c.loop-polynomial-test.true
    c.in_ok-ones.ensures c.least_member.ensures.reads

pub loop-polynomial-preserved : goal.loop-polynomial-preserved
loop-polynomial-preserved g c =
    one_more (g.S.Store.state c.args.store.now) c.args.points c.args.polynomials.now c.requires.points c.requires.polynomials
    c.requires.planned c.loop-polynomial.polynomial-index c.loop-polynomial.invariant c.loop-polynomial-test.true
    c.in_ok-ones.ensures c.least_member.ensures.reads c.least_member.ensures.least c.in_ok-push.ensures.items
