use Rattle.std.proofs.Common.{Ok, length, take}
use Rattle.lattice.specs.Words.{cover, rows_with, working_set, cover_list}
use Rattle.node_store.specs.Stores.{Gives}
use Rattle.cube_build.specs.PointSets.{mask_of}
use Rattle.cube_build.proofs.covers.cover.Given as goal

abbrev pub invariant-loop-row : goal.invariant-loop-row
invariant-loop-row g l =
    let s = g.S.Store.state l.initial.store in
    let chosen = rows_with (mask_of l.set) l.output (take (length l.yielded) l.rows) in
    Gives s (g.S.Store.state l.store) (Ok l.points) (cover s.vars chosen) (working_set s.vars (cover_list s.vars chosen))
