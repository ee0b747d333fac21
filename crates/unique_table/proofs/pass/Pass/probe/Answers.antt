use Rattle.std.proofs.Common.{arith}
use Rattle.unique_table.proofs.Steps.{probes}
use Rattle.unique_table.proofs.pass.Pass.probe.Goals as goal

pub load-requires : goal.load-requires
load-requires g c = let p = c.args.self.now in
    (p.of, grind arith, probes _ _ (p.sound).live _ _ _ g.J.Asked.asked g.J.Asked.last (grind arith) c.requires.end)
