use Rattle.std.proofs.Common.{◌||◌, refl}
use Rattle.lattice.specs.Words.{first_only}
use Rattle.lattice.proofs.Diagrams.{covers_head}
use Rattle.node_store.proofs.StoreLaws.{failed, reads_one}
use Rattle.interp_lex.proofs.PointSteps.{second_planned, last_planned, last_gives}
use Rattle.interp_lex.proofs.parts.replaced.Goals as goal

pub union-requires-clause-planned : goal.union-requires-clause-planned
union-requires-clause-planned g c = covers_head _ _ _ _ c.requires.planned

pub minus-requires-clause-planned : goal.minus-requires-clause-planned
minus-requires-clause-planned g c =
    second_planned (λ a b. a || b) first_only refl refl _ _ _ _ _ (g.met.S.Store.sound c.args.store.now) c.requires.known c.requires.planned
    c.in_ok-first.ensures.result

pub returns-in_err-second-clause-result : goal.returns-in_err-second-clause-result
returns-in_err-second-clause-result g c =
    failed c.from_residual-in_err-second.ensures.0 (reads_one c.in_ok-first.ensures.result) c.in_err-second.ensures.result

pub union-requires-2-clause-planned : goal.union-requires-2-clause-planned
union-requires-2-clause-planned g c =
    last_planned (λ a b. a || b) first_only refl refl _ _ _ _ _ (g.met.S.Store.sound c.args.store.now) c.requires.known c.requires.planned
    c.in_ok-first.ensures.result c.in_ok-second.ensures.result

pub returns-clause-result : goal.returns-clause-result
returns-clause-result g c =
    last_gives (λ a b. a || b) first_only refl refl _ _ _ _ _ (g.met.S.Store.sound c.args.store.now) c.requires.known c.requires.planned
    c.in_ok-first.ensures.result c.in_ok-second.ensures.result c.union-2.result c.union-2.ensures.result
