use Rattle.std.proofs.Common.{take}
use Rattle.cube_sets.specs.Clashes.{IsClashOf, IsAmong}
use Rattle.cube_sets.proofs.Search.{Best}
use Rattle.cube_sets.proofs.clash.least_with.Given as goal

abbrev pub invariant-loop-b : goal.invariant-loop-b
invariant-loop-b l = Best l.fn.outputs l.limit (IsAmong (IsClashOf l.p.inputs l.a) (take l.b-index l.p.rows)) l.least
