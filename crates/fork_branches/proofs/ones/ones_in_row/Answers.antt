use Rattle.bool_poly.proofs.OnesLemmas.{sum_asks, with_after, with_later}
use Rattle.computed_cache.specs.Cached.{cached_state}
use Rattle.fork_branches.proofs.Branches.{in_row}
use Rattle.fork_branches.proofs.ones.ones_in_row.Goals as goal

pub ones_of-requires-2 : goal.ones_of-requires-2
ones_of-requires-2 c =
    let later = c.in_ok-lo.ensures.grows in
    let asks = sum_asks (with_later _ (cached_state c.ones_of.new.store) _ _ _ later.known later.plan later.vars c.requires.high)
    c.in_ok-with.ensures in
    record { h = asks.polynomial; set = asks.points; planned = asks.planned }

pub returns : goal.returns
returns c = in_row c.in_ok-lo.ensures (with_after c.in_ok-lo.ensures.grows c.requires.high c.in_ok-with.ensures c.in_ok-hi.ensures)
