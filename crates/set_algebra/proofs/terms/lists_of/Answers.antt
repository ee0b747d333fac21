use Rattle.std.proofs.Common.{Err, ap, arith}
use Rattle.lattice.proofs.Polynomials.{same_error}
use Rattle.node_store.proofs.StoreLaws.{Reads-trans}
use Rattle.set_algebra.specs.declared.counted.WalkRefusal.TheVariants.{Over}
use Rattle.set_algebra.proofs.TermLemmas.{lists_more, terms_more}
use Rattle.set_algebra.proofs.terms.lists_of.Goals as goal

pub returns-in_err-terms_of-clause-reads : goal.returns-in_err-terms_of-clause-reads
returns-in_err-terms_of-clause-reads g c = Reads-trans _ _ _ c.loop-polynomial.invariant.reads c.terms_of.ensures.reads

pub returns-in_err-terms_of-clause-over : goal.returns-in_err-terms_of-clause-over
returns-in_err-terms_of-clause-over g c is =
    let so_far = c.loop-polynomial.invariant in
    let more = terms_more _ _ _ _ so_far.reads.grows c.requires c.loop-polynomial-test.true in
    let same = same_error c.from_residual.result c.in_err-terms_of.field-0.0 Over c.from_residual.ensures.1 is in
    omega (arith, more.1, c.in_err-terms_of.ensures.over (ap Err same), so_far.left)

pub returns-in_err-push-clause-reads : goal.returns-in_err-push-clause-reads
returns-in_err-push-clause-reads g c = Reads-trans _ _ _ c.loop-polynomial.invariant.reads c.terms_of.ensures.reads

pub loop-polynomial-preserved : goal.loop-polynomial-preserved
loop-polynomial-preserved g c =
    let so_far = c.loop-polynomial.invariant in
    let more = terms_more _ _ _ _ so_far.reads.grows c.requires c.loop-polynomial-test.true in
    record {
      reads = Reads-trans _ _ _ so_far.reads c.terms_of.ensures.reads;
      lists = lists_more _ _ _ _ _ _ _ so_far.reads.grows c.requires c.loop-polynomial-test.true so_far.lists
          c.in_ok-terms_of.ensures.terms c.in_ok-push.ensures.ok;
      left = omega (arith, more.0, c.in_ok-terms_of.ensures.left, so_far.left);
    }
