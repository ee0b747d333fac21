use Rattle.std.proofs.Common.{◌&&◌, refl}
use Rattle.lattice.proofs.Diagrams.{covers_head}
use Rattle.node_store.proofs.StoreLaws.{failed, reads_one}
use Rattle.interp_lex.proofs.PointSteps.{second_planned, last_planned, last_gives}
use Rattle.interp_lex.proofs.parts.common.Goals as goal

pub inter-requires-clause-planned : goal.inter-requires-clause-planned
inter-requires-clause-planned g c = covers_head _ _ _ _ c.requires.planned

pub inter-requires-2-clause-planned : goal.inter-requires-2-clause-planned
inter-requires-2-clause-planned g c =
    second_planned (λ a b. a && b) (λ a b. a && b) refl refl _ _ _ _ _ (g.met.S.Store.sound c.args.store.now)
    (c.requires.a, c.requires.b, c.requires.c, c.requires.d) c.requires.planned c.in_ok-first.ensures.result

pub returns-in_err-second-clause-result : goal.returns-in_err-second-clause-result
returns-in_err-second-clause-result g c =
    failed c.from_residual-in_err-second.ensures.0 (reads_one c.in_ok-first.ensures.result) c.in_err-second.ensures.result

pub union-requires-clause-planned : goal.union-requires-clause-planned
union-requires-clause-planned g c =
    last_planned (λ a b. a && b) (λ a b. a && b) refl refl _ _ _ _ _ (g.met.S.Store.sound c.args.store.now)
    (c.requires.a, c.requires.b, c.requires.c, c.requires.d) c.requires.planned c.in_ok-first.ensures.result c.in_ok-second.ensures.result

pub returns-clause-result : goal.returns-clause-result
returns-clause-result g c =
    last_gives (λ a b. a && b) (λ a b. a && b) refl refl _ _ _ _ _ (g.met.S.Store.sound c.args.store.now)
    (c.requires.a, c.requires.b, c.requires.c, c.requires.d) c.requires.planned c.in_ok-first.ensures.result c.in_ok-second.ensures.result
    c.union.result c.union.ensures.result
