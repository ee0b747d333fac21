use Rattle.std.proofs.Common.{ap, sym, ◌∙◌, Some}
use Rattle.node_store.proofs.StoreLaws.{Builds-known, filled, zero_family}
use Rattle.bool_poly.proofs.Families.{part_with-none, part_with-some}
use Rattle.bool_poly.proofs.points.part_with.Goals as goal

pub returns-then-points-eq0 : goal.returns-then-points-eq0
returns-then-points-eq0 g c =
    let s = g.S.Store.state c.args.store.now in let ok = g.met.S.Store.sound c.args.store.now in
    Builds-known s (record { 0 = 0 }) _ ok (ok.empty ∙ ap Some (sym (part_with-none _ _ _ _ (zero_family s _ ok c.if-points-eq0.true))))

pub xor-requires-clause-planned : goal.xor-requires-clause-planned
xor-requires-clause-planned g c =
    rw (part_with-some _ _ _ _ (filled _ _ (g.met.S.Store.sound c.args.store.now) c.requires.points c.if-points-eq0.false))
    at c.requires.planned

pub returns : goal.returns
returns g c =
    rw (part_with-some _ _ _ _ (filled _ _ (g.met.S.Store.sound c.args.store.now) c.requires.points c.if-points-eq0.false)) c.xor.ensures
