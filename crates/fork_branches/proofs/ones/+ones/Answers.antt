use Rattle.std.proofs.Common.{◌∙◌, ap}
use Rattle.lattice.proofs.Polynomials.{on_err}
use Rattle.node_store.proofs.StoreLaws.{Grows-refl}
use Rattle.bool_poly.proofs.OnesLemmas.{ones_finish, sum_asks, with_after}
use Rattle.unique_table.specs.Passes.{twin_of}
use Rattle.computed_cache.specs.Cached.{cached_sound, cached_state}
use Rattle.fork_branches.proofs.Branches.{both_gives, both_reads, takes_both, forked_finding}
use Rattle.fork_branches.proofs.ones.+ones.Goals as goal

pub ones_both-returns-clause-gives : goal.ones_both-returns-clause-gives
ones_both-returns-clause-gives g m c =
    let here = c.split-2.ensures.same ∙ c.split.ensures.same in let back = c.split-2.ensures.twin ∙ ap twin_of c.split.ensures.same in
    rw c.pair_of.ensures (both_gives (cached_sound c.args.store.now) (cached_sound c.join.new.self) (cached_sound c.join-2.new.self)
    (rw (c.new.ensures.state, c.pass.ensures.state, here) at c.join.ensures.joined)
    (rw (c.new-2.ensures.state, c.pass-2.ensures.state) at c.join-2.ensures.joined) c.join-first.result.0.1 c.join-first.result.1.1
    (rw (c.end-first.ensures.state, c.end.ensures.state, c.split.ensures.twin) at c.join-first.ensures.first.1)
    (rw (c.end-second.ensures.state, c.end-2.ensures.state, back) at c.join-first.ensures.second.1))

pub ones_both-returns-clause-forks : goal.ones_both-returns-clause-forks
ones_both-returns-clause-forks g m c =
    let here = c.split-2.ensures.same ∙ c.split.ensures.same in
    let back = c.split-2.ensures.twin ∙ ap twin_of c.split.ensures.same in record {
      first = c.join-first.result.0.0;
      second = c.join-first.result.1.0;
      low = c.join-first.result.0.1;
      high = c.join-first.result.1.1;
      one = rw (c.end-first.ensures.state, c.end.ensures.state, c.split.ensures.twin) at c.join-first.ensures.first.1;
      two = rw (c.end-second.ensures.state, c.end-2.ensures.state, back) at c.join-first.ensures.second.1;
      both = c.pair_of.ensures;
      takes = takes_both (rw (c.new.ensures.state, c.pass.ensures.state, here) at c.join.ensures.joined)
          (rw (c.new-2.ensures.state, c.pass-2.ensures.state) at c.join-2.ensures.joined);
    }

pub with_in-returns : goal.with_in-returns
with_in-returns g m c = with_after (Grows-refl (cached_state c.args.store.now)) c.requires.asks c.in_ok-with.ensures c.ones_in.ensures.finds

pub ones_in-finish_ones-requires : goal.ones_in-finish_ones-requires
ones_in-finish_ones-requires g m c =
    let is = c.in-Halves.ensures in let both = c.in_ok-lo-in-Halves.ensures.gives in
    let all = ones_finish c.requires.asks is.operands is.cofactors is.reads (both_reads both) both.low both.low_held both.high
    both.high_held in
    record { asks = all.asks; varies = is.varies; filled = is.filled; cut = all.cut; halves = all.halves }

pub ones_in-returns-in_ok-lo-in-Halves-clause-finds : goal.ones_in-returns-in_ok-lo-in-Halves-clause-finds
ones_in-returns-in_ok-lo-in-Halves-clause-finds g m c =
    let is = c.in-Halves.ensures in let both = c.in_ok-lo-in-Halves.ensures.gives in
    (ones_finish c.requires.asks is.operands is.cofactors is.reads (both_reads both) both.low both.low_held both.high
    both.high_held).given c.finish_ones.ensures

pub with_in-ones_in-requires-clause-asks : goal.with_in-ones_in-requires-clause-asks
with_in-ones_in-requires-clause-asks g m c κs within = sum_asks c.requires.asks c.in_ok-with.ensures

pub ones_in-returns-in_ok-lo-in-Halves-clause-full : goal.ones_in-returns-in_ok-lo-in-Halves-clause-full
ones_in-returns-in_ok-lo-in-Halves-clause-full g m c =
    let is = c.in-Halves.ensures in
    on_err _ (forked_finding is.operands is.reads is.cofactors c.in_ok-lo-in-Halves.ensures.forks c.finish_ones.ensures.grows)

pub ones_in-returns-in_err-lo-in-Halves-clause-full : goal.ones_in-returns-in_err-lo-in-Halves-clause-full
ones_in-returns-in_err-lo-in-Halves-clause-full g m c =
    let is = c.in-Halves.ensures in
    on_err _ (forked_finding is.operands is.reads is.cofactors c.in_err-lo-in-Halves.ensures.forks (Grows-refl _))
