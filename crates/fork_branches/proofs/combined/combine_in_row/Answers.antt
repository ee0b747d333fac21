use Rattle.std.proofs.Common.{refl}
use Rattle.lattice.specs.Words.{test_of}
use Rattle.node_store.proofs.StoreLaws.{gives_as}
use Rattle.set_algebra.proofs.Levels.{combine_later}
use Rattle.computed_cache.specs.Cached.{cached_state}
use Rattle.fork_branches.proofs.Branches.{in_row}
use Rattle.fork_branches.proofs.combined.combine_in_row.Goals as goal

pub returns : goal.returns
returns c =
    let low = c.in_ok-lo.ensures in let high = c.requires.high in
    let same = combine_later (test_of c.args.op) (cached_state c.args.store.now) (cached_state c.combine.new.store) c.args.c.a_high
    c.args.c.b_high low.grows high.first high.second in
    in_row low (gives_as same (rw (same, low.grows.vars) refl) c.in_ok-hi.ensures)
