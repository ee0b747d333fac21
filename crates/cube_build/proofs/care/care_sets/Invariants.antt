use Rattle.std.proofs.Common.{◌≡◌, length}
use Rattle.node_store.specs.Stores.{Reads}
use Rattle.cube_build.proofs.CareLemmas.{FirstCovers}
use Rattle.cube_build.proofs.care.care_sets.Given as goal

-- the covers of the sets before
abbrev pub invariant-loop-place : goal.invariant-loop-place
invariant-loop-place g l = record {
  reads : Reads (g.S.Store.state l.fn.store) (g.S.Store.state l.store);
  covers : FirstCovers (g.S.Store.state l.store) l.p.kind l.p.rows l.output l.place l.covers;
  room : length l.covers ≡ 3;
}
