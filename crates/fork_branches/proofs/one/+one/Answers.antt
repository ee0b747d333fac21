use Rattle.std.proofs.Common.{◌∙◌, ap, rules}
use Rattle.unique_table.specs.Passes.{token_state, twin_of}
use Rattle.computed_cache.specs.Cached.{cached_sound}
use Rattle.fork_branches.specs.Work.{MayWork}
use Rattle.fork_branches.proofs.Branches.{both_gives, takes_both}
use Rattle.fork_branches.proofs.Works.{may_twin}
use Rattle.fork_branches.proofs.one.+one.Goals as goal

pub run_both-join-one-requires-after_bounds : goal.run_both-join-one-requires-after_bounds
run_both-join-one-requires-after_bounds g m c κs within =
    let tasks = g.J.Jobs.tasks c.args.jobs.now in let twin = may_twin c.requires.may in
    let x_is = c.end-one.ensures.state ∙ (c.end.ensures.state ∙ c.split.ensures.twin) in
    let z_is = c.end-two.ensures.state ∙ (c.end-2.ensures.state ∙ (c.split-2.ensures.twin ∙ ap twin_of c.split.ensures.same)) in
    let front : MayWork tasks (token_state c.end-one.result) = rw x_is twin in
    let back : MayWork tasks (token_state c.end-two.result) = rw z_is twin in
    search (rules, front, back)

pub run_both-returns-clause-runs : goal.run_both-returns-clause-runs
run_both-returns-clause-runs g m c =
    let here = c.split-2.ensures.same ∙ c.split.ensures.same in let back = c.split-2.ensures.twin ∙ ap twin_of c.split.ensures.same in
    rw c.pair_of.ensures (both_gives (cached_sound c.args.pass.now) (cached_sound c.join.new.self) (cached_sound c.join-2.new.self)
    (rw (c.new.ensures.state, c.pass.ensures.state, here) at c.join.ensures.joined)
    (rw (c.new-2.ensures.state, c.pass-2.ensures.state) at c.join-2.ensures.joined) c.join-one.result.0.1 c.join-one.result.1.1
    (rw (c.end-one.ensures.state, c.end.ensures.state, c.split.ensures.twin) at c.join-one.ensures.first.1)
    (rw (c.end-two.ensures.state, c.end-2.ensures.state, back) at c.join-one.ensures.second.1))

pub run_both-returns-clause-forks : goal.run_both-returns-clause-forks
run_both-returns-clause-forks g m c =
    let here = c.split-2.ensures.same ∙ c.split.ensures.same in
    let back = c.split-2.ensures.twin ∙ ap twin_of c.split.ensures.same in record {
      first = c.join-one.result.0.0;
      second = c.join-one.result.1.0;
      low = c.join-one.result.0.1;
      high = c.join-one.result.1.1;
      one = rw (c.end-one.ensures.state, c.end.ensures.state, c.split.ensures.twin) at c.join-one.ensures.first.1;
      two = rw (c.end-two.ensures.state, c.end-2.ensures.state, back) at c.join-one.ensures.second.1;
      both = c.pair_of.ensures;
      takes = takes_both (rw (c.new.ensures.state, c.pass.ensures.state, here) at c.join.ensures.joined)
          (rw (c.new-2.ensures.state, c.pass-2.ensures.state) at c.join-2.ensures.joined);
    }
