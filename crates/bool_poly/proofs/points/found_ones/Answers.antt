use Rattle.std.proofs.Common.{refl, inl, inr}
use Rattle.std.proofs.lemmas.Option.{IfSome_then}
use Rattle.lattice.specs.Words.{answer}
use Rattle.lattice.specs.declared.op.Op.TheVariants.{Ones}
use Rattle.node_store.proofs.StoreLaws.{handles, kept_given}
use Rattle.bool_poly.proofs.Steps.{at_nothing, at_unit}
use Rattle.bool_poly.proofs.points.found_ones.Goals as goal

pub returns-then-h-eq0-clause-some : goal.returns-then-h-eq0-clause-some
returns-then-h-eq0-clause-some g c =
    at_nothing c.args.h c.args.set (g.met.S.Store.sound c.args.store.now) (record { 0 = 0 }) refl (inl c.if-h-eq0.true)

pub returns-then-set-eq0-clause-some : goal.returns-then-set-eq0-clause-some
returns-then-set-eq0-clause-some g c =
    at_nothing c.args.h c.args.set (g.met.S.Store.sound c.args.store.now) c.args.set c.if-set-eq0.true (inr c.if-set-eq0.true)

pub returns-then-h-eq1-clause-some : goal.returns-then-h-eq1-clause-some
returns-then-h-eq1-clause-some g c =
    at_unit c.args.h c.args.set (g.met.S.Store.sound c.args.store.now) c.requires.points c.if-set-eq0.false c.if-h-eq1.true

pub returns-clause-some : goal.returns-clause-some
unfolding answer
returns-clause-some g c =
    IfSome_then c.look.result c.look.ensures.result
    (λ r kept. kept_given (handles Ones refl refl c.requires.polynomial c.requires.points) c.look.ensures.reads kept)
