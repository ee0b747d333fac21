use Rattle.std.specs.Prelude.{◌+◌, ◌^◌, ◌==◌}
use Rattle.unique_table.specs.Told.{IsAsked}
use Rattle.unique_table.specs.Walks.{Walked}
use Rattle.unique_table.specs.PassOf.{AreOfOne}
use Rattle.unique_table.specs.declared.pass.Pass.{Pass}
use Rattle.unique_table.proofs.pass.Pass.find_further.Given as goal

abbrev pub ghosts-visit : goal.ghosts-visit
ghosts-visit a = record { asked = a.word; last = a.steps + 1 == 2 ^ a.self.now.bits }

abbrev pub invariant-loop-steps : goal.invariant-loop-steps
invariant-loop-steps l = AreOfOne l.fn.self l.self × IsAsked l.self.seat.me.0 l.word
    × ((p : Pass) → Walked p l.word 1 l.fn.self → Walked p l.word l.steps l.self)
