use Rattle.std.proofs.Common.{◌||◌, refl}
use Rattle.set_algebra.proofs.Calls.{built_planned, call_failed, combined_planned}
use Rattle.nf_run.proofs.ReducedSteps.{after_term, at_term, no_terms, one_more, sums_whole}
use Rattle.nf_run.proofs.reduction.polynomial_of.Goals as goal

pub loop-term-init : goal.loop-term-init
loop-term-init g c = no_terms _ c.requires.planned (g.met.S.Store.sound c.args.store.now)

pub one-requires-clause-planned : goal.one-requires-clause-planned
one-requires-clause-planned g c =
    built_planned (at_term _ _ c.requires.below c.loop-term.invariant c.loop-term-test.true c.term-item.is) refl

pub returns-in_err-next : goal.returns-in_err-next
returns-in_err-next g c = call_failed c.loop-term.invariant c.from_residual.ensures.0 c.in_err-next.ensures

pub union-requires-clause-planned : goal.union-requires-clause-planned
union-requires-clause-planned g c =
    let k = after_term _ _ c.requires.below c.loop-term.invariant c.loop-term-test.true c.term-item.is c.in_ok-next.ensures in
    combined_planned (λ a b. a || b) refl k k.here.1.0 k.here.0

pub returns-in_err-sum : goal.returns-in_err-sum
returns-in_err-sum g c =
    let k = after_term _ _ c.requires.below c.loop-term.invariant c.loop-term-test.true c.term-item.is c.in_ok-next.ensures in
    call_failed k c.from_residual-in_err-sum.ensures.0 c.in_err-sum.ensures

pub loop-term-preserved : goal.loop-term-preserved
loop-term-preserved g c =
    one_more _ _ c.requires.below c.loop-term.invariant c.loop-term-test.true c.term-item.is c.in_ok-next.ensures c.in_ok-sum.ensures

pub returns : goal.returns
returns g c = sums_whole c.args.terms.now _ c.loop-term.invariant c.loop-term-test.false
