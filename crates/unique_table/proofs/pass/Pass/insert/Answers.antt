use Rattle.std.proofs.Common.{arith}
use Rattle.unique_table.proofs.Steps.{exchanges}
use Rattle.unique_table.proofs.pass.Pass.insert.Goals as goal

pub compare_exchange-requires : goal.compare_exchange-requires
compare_exchange-requires g c = let p = c.args.self.now in let next = c.requires.next in (
  p.of,
  grind arith,
  exchanges _ _ (p.sound).live _ _ _ _ next.0 g.J.Asked.last (grind arith) c.requires.asked next.1 c.requires.end,
)
