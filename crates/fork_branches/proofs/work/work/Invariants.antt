use Rattle.std.proofs.Common.{◌≤◌, ◌-◌, Ok, length, vec_capacity}
use Rattle.computed_cache.specs.Cached.{cached_state}
use Rattle.fork_branches.specs.Work.{MayWork, Works, Takes}
use Rattle.fork_branches.proofs.work.work.Given as goal

abbrev pub invariant-loop-number : goal.invariant-loop-number
invariant-loop-number g l = let tasks = g.J.Jobs.tasks l.jobs in record {
  may : MayWork tasks (cached_state l.pass);
  room : tasks.total ≤ vec_capacity l.answers;
  works : Works tasks (cached_state l.fn.pass) (cached_state l.pass) l.answers.items (Ok (tt {0}));
  takes : Takes (g.D.Dealing.is_of l.dealer) g.D.Dealing.shares (g.D.Dealing.took l.dealer) l.fn.hand l.hand l.answers.items (Ok (tt {0}));
}

-- each number has an answer, and no number is taken twice
abbrev pub decreases-loop-number : goal.decreases-loop-number
decreases-loop-number g l = (g.J.Jobs.tasks l.jobs).total - length l.answers.items
