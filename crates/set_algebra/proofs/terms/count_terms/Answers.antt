use Rattle.std.proofs.Common.{arith}
use Rattle.node_store.proofs.StoreLaws.{Reads-trans}
use Rattle.set_algebra.proofs.TermLemmas.{terms_more}
use Rattle.set_algebra.proofs.terms.count_terms.Goals as goal

pub returns-in_err-count : goal.returns-in_err-count
returns-in_err-count g c =
    let so_far = c.loop-polynomial.invariant in
    let more = terms_more _ _ _ _ so_far.reads.grows c.requires c.loop-polynomial-test.true in
    record {
      reads = Reads-trans _ _ _ so_far.reads c.count_upto.ensures.reads;
      count = rw c.from_residual.ensures tt;
      within = rw c.from_residual.ensures tt;
      over = rw c.from_residual.ensures (omega (arith, more.0, more.1, c.in_err-count.ensures.over, so_far.count));
    }

pub loop-polynomial-preserved : goal.loop-polynomial-preserved
loop-polynomial-preserved g c =
    let so_far = c.loop-polynomial.invariant in
    let more = terms_more _ _ _ _ so_far.reads.grows c.requires c.loop-polynomial-test.true in
    record {
      reads = Reads-trans _ _ _ so_far.reads c.count_upto.ensures.reads;
      count = omega (arith, more.0, c.in_ok-count.ensures.count, so_far.count);
      within = omega (arith, c.in_ok-count.ensures.within, so_far.within);
    }
