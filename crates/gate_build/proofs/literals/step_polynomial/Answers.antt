use Rattle.std.proofs.Common.{[]}
use Rattle.lattice.proofs.Diagrams.{covers_nil}
use Rattle.node_store.proofs.StoreLaws.{Builds-known, gives_fewer}
use Rattle.gate_build.proofs.literals.step_polynomial.Goals as goal

pub returns-in-Skip-clause-result : goal.returns-in-Skip-clause-result
returns-in-Skip-clause-result g c =
    let s = g.S.Store.state c.args.store.now in let sound = g.met.S.Store.sound c.args.store.now in
    rw c.in-Skip.is (gives_fewer (covers_nil s.vars _) (Builds-known s (record { 0 = 0 }) [] sound sound.empty))
