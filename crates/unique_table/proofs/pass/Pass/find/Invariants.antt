use Rattle.std.specs.Prelude.{◌+◌, ◌^◌, ◌==◌}
use Rattle.unique_table.proofs.pass.Pass.find.Given as goal

abbrev pub ghosts-visit : goal.ghosts-visit
ghosts-visit a = record { asked = a.word; last = a.steps + 1 == 2 ^ a.self.now.bits }
