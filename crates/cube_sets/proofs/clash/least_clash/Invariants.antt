use Rattle.std.proofs.Common.{take}
use Rattle.cube_sets.specs.Clashes.{IsClashOf, IsAmong}
use Rattle.cube_sets.proofs.Search.{Best}
use Rattle.cube_sets.proofs.clash.least_clash.Given as goal

abbrev pub invariant-loop-a : goal.invariant-loop-a
invariant-loop-a l = Best l.p.outputs l.outputs (IsAmong (λ a. IsAmong (IsClashOf l.p.inputs a) l.p.rows) (take l.a-index l.p.rows)) l.least
