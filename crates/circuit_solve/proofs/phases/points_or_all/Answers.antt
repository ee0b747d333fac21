use Rattle.std.proofs.Common.{[]}
use Rattle.lattice.specs.Words.{power}
use Rattle.lattice.proofs.Diagrams.{covers_head}
use Rattle.node_store.proofs.StoreLaws.{builds_gives}
use Rattle.circuit_solve.proofs.ElementSteps.{points_given}
use Rattle.circuit_solve.proofs.phases.points_or_all.Goals as goal

pub power-requires : goal.power-requires
power-requires g c = let s = g.S.Store.state c.args.store.now in
    record { planned = covers_head s.vars s.plan [] (power s.vars) (rw c.in-None.is at c.requires.planned) }

pub returns-in-Some : goal.returns-in-Some
returns-in-Some g c =
    rw c.in-Some.is (points_given (g.S.Store.state c.args.store.now) c.in-Some.points (c.requires.known c.in-Some.points c.in-Some.is))

pub returns-in-None : goal.returns-in-None
returns-in-None g c = rw c.in-None.is (builds_gives _ _ c.power.result _ c.power.ensures)
