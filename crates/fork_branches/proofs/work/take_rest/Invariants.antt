use Rattle.std.proofs.Common.{◌≡◌}
use Rattle.fork_branches.proofs.work.take_rest.Given as goal

abbrev pub invariant-loop-turn : goal.invariant-loop-turn
invariant-loop-turn g l =
    g.D.Dealing.is_of l.dealer l.hand × (g.D.Dealing.shares l.hand ≡ g.D.Dealing.shares l.fn.hand)
