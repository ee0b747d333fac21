use Rattle.circuit_solve.proofs.MeasureSteps.{all_measured, handle_later, none_measured, one_measured}
use Rattle.circuit_solve.proofs.measuring.measures_of.Goals as goal

pub loop-polynomial-init : goal.loop-polynomial-init
loop-polynomial-init g c =
    rw c.new-found.ensures.items (none_measured (g.S.Store.state c.args.store.now) c.args.polynomials.now)

pub measure-requires : goal.measure-requires
measure-requires g c =
    handle_later (g.S.Store.state c.args.store.now) c.args.polynomials.now c.requires c.loop-polynomial.polynomial-index
    c.loop-polynomial.invariant c.loop-polynomial-test.true

pub loop-polynomial-preserved : goal.loop-polynomial-preserved
loop-polynomial-preserved g c = let is = c.in_ok-measure.ensures in
    one_measured (g.S.Store.state c.args.store.now) c.args.polynomials.now c.requires c.loop-polynomial.polynomial-index
    c.loop-polynomial.invariant c.loop-polynomial-test.true is.reads is.terms is.degree is.nodes c.in_ok-push.ensures.items

pub returns : goal.returns
returns g c =
    all_measured (g.S.Store.state c.args.store.now) c.args.polynomials.now c.loop-polynomial.polynomial-index
    c.loop-polynomial-test.false c.loop-polynomial.invariant
