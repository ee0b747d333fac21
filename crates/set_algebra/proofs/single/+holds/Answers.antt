use Rattle.std.proofs.Common.{◌≡◌, ◌∙◌, nat_eq, not, sym, ap, arith, eq-eqb, [], ◌∷◌, ℕ}
use Rattle.std.proofs.lemmas.Grind.{common_steps}
use Rattle.lattice.specs.Words.{has}
use Rattle.lattice.proofs.Polynomials.{has-nil, has_head, has_other}
use Rattle.node_store.proofs.StoreLaws.{zero_family, one_family}
use Rattle.set_algebra.proofs.HalvesLemmas.{has_low, has_high}
use Rattle.set_algebra.proofs.single.+holds.Goals as goal

has_unit : (m : ℕ) → nat_eq m 0 ≡ has (0 ∷ []) m
has_unit m = grind (arith, common_steps, has_head 0 [], has_other 0 [] m, has-nil m)

pub returns-else-a-ne0-clause-value : goal.returns-else-a-ne0-clause-value
returns-else-a-ne0-clause-value g t c =
    ap not (eq-eqb c.args.a.0 0 c.if-a-ne0.false)
    ∙ rw (zero_family _ c.args.a (g.met.S.Store.sound c.args.store.now) c.if-a-ne0.false) (sym (has-nil c.args.m))

pub returns-then-a-ne0-clause-value : goal.returns-then-a-ne0-clause-value
returns-then-a-ne0-clause-value g t c =
    rw (one_family c.args.a (g.met.S.Store.sound c.args.store.now) (omega (arith, c.in-None.ensures.constant, c.if-a-ne0.true)))
    (has_unit c.args.m)

pub returns-then-m-h-clause-value : goal.returns-then-m-h-clause-value
returns-then-m-h-clause-value g t c = c.holds.ensures.value ∙ has_low c.in-Some.ensures.halves c.args.m c.if-m-h.true

pub returns-else-m-h-clause-value : goal.returns-else-m-h-clause-value
returns-else-m-h-clause-value g t c = c.holds-else-m-h.ensures.value ∙ has_high c.in-Some.ensures.halves c.args.m c.if-m-h.false
