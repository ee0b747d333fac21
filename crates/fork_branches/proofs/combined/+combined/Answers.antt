use Rattle.std.proofs.Common.{◌∙◌, ℕ, ap}
use Rattle.lattice.proofs.Polynomials.{on_err}
use Rattle.node_store.proofs.StoreLaws.{Grows-refl}
use Rattle.set_algebra.proofs.Levels.{Finishes, finishes}
use Rattle.unique_table.specs.Passes.{twin_of}
use Rattle.computed_cache.specs.Cached.{cached_sound, cached_state}
use Rattle.fork_branches.proofs.Branches.{both_gives, both_reads, takes_both, forked_combining}
use Rattle.fork_branches.proofs.combined.+combined.Goals as goal
use Rattle.fork_branches.proofs.combined.+combined.Goals.{combine_in-In_ok-lo-in-Halves}
use Rattle.fork_branches.proofs.combined.+combined.Given.{Over}

pub combine_both-returns-clause-gives : goal.combine_both-returns-clause-gives
combine_both-returns-clause-gives g m c =
    let here = c.split-2.ensures.same ∙ c.split.ensures.same in let back = c.split-2.ensures.twin ∙ ap twin_of c.split.ensures.same in
    rw c.pair_of.ensures (both_gives (cached_sound c.args.store.now) (cached_sound c.join.new.self) (cached_sound c.join-2.new.self)
    (rw (c.new.ensures.state, c.pass.ensures.state, here) at c.join.ensures.joined)
    (rw (c.new-2.ensures.state, c.pass-2.ensures.state) at c.join-2.ensures.joined) c.join-first.result.0.1 c.join-first.result.1.1
    (rw (c.end-first.ensures.state, c.end.ensures.state, c.split.ensures.twin) at c.join-first.ensures.first.1)
    (rw (c.end-second.ensures.state, c.end-2.ensures.state, back) at c.join-first.ensures.second.1))

pub combine_both-returns-clause-forks : goal.combine_both-returns-clause-forks
combine_both-returns-clause-forks g m c =
    let here = c.split-2.ensures.same ∙ c.split.ensures.same in
    let back = c.split-2.ensures.twin ∙ ap twin_of c.split.ensures.same in record {
      first = c.join-first.result.0.0;
      second = c.join-first.result.1.0;
      low = c.join-first.result.0.1;
      high = c.join-first.result.1.1;
      one = rw (c.end-first.ensures.state, c.end.ensures.state, c.split.ensures.twin) at c.join-first.ensures.first.1;
      two = rw (c.end-second.ensures.state, c.end-2.ensures.state, back) at c.join-first.ensures.second.1;
      both = c.pair_of.ensures;
      takes = takes_both (rw (c.new.ensures.state, c.pass.ensures.state, here) at c.join.ensures.joined)
          (rw (c.new-2.ensures.state, c.pass-2.ensures.state) at c.join-2.ensures.joined);
    }

whole : (g : Over) (m : ℕ) (c : combine_in-In_ok-lo-in-Halves g m)
    → Finishes c.args.op (cached_state c.args.store.now) (cached_state c.combine_halves.new.store) c.args.a c.args.b
    c.in-Halves.halved.x c.in-Halves.halved.y c.in-Halves.halved.cofactors.var c.in_ok-lo-in-Halves.lo c.in_ok-lo-in-Halves.hi
whole g m c =
    let is = c.in-Halves.ensures in let both = c.in_ok-lo-in-Halves.ensures.gives in
    finishes c.requires.asks is.order is.cofactors is.reads (both_reads both) both.low both.high

pub combine_in-finish-requires : goal.combine_in-finish-requires
combine_in-finish-requires g m c =
    let all = whole g m (goal.at.combine_in-finish-requires g m c).In_ok-lo-in-Halves in
    record { op = c.requires.op; asks = all.asks; cut = all.cut; low = all.low; high = all.high }

pub combine_in-returns-in_ok-lo-in-Halves-clause-combines : goal.combine_in-returns-in_ok-lo-in-Halves-clause-combines
combine_in-returns-in_ok-lo-in-Halves-clause-combines g m c =
    (whole g m (goal.at.combine_in-returns-in_ok-lo-in-Halves-clause-combines g m c).In_ok-lo-in-Halves).given c.finish.ensures

pub combine_in-returns-in_ok-lo-in-Halves-clause-full : goal.combine_in-returns-in_ok-lo-in-Halves-clause-full
combine_in-returns-in_ok-lo-in-Halves-clause-full g m c =
    let is = c.in-Halves.ensures in
    on_err _ (forked_combining is.order is.reads is.cofactors c.in_ok-lo-in-Halves.ensures.forks c.finish.ensures.grows)

pub combine_in-returns-in_err-lo-in-Halves-clause-full : goal.combine_in-returns-in_err-lo-in-Halves-clause-full
combine_in-returns-in_err-lo-in-Halves-clause-full g m c =
    let is = c.in-Halves.ensures in
    on_err _ (forked_combining is.order is.reads is.cofactors c.in_err-lo-in-Halves.ensures.forks (Grows-refl _))
