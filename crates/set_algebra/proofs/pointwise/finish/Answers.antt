use Rattle.std.proofs.Common.{ℕ, ◌-◌, ◌<◌, suc, refl, sym, ◌∙◌, arith}
use Rattle.lattice.specs.Words.{combine, low_cofactor, high_cofactor, test_of}
use Rattle.lattice.specs.declared.op.Op.{Op}
use Rattle.lattice.proofs.Diagrams.{combine-join, combine-low_after, combine-high_after, test_none, IsAllowed-pointwise}
use Rattle.node_store.specs.Stores.{State, family, Denotes, IsSound, second}
use Rattle.node_store.specs.declared.store.Handle.{Handle}
use Rattle.node_store.proofs.StoreLaws.{MayGrow, Reads-refl, may_grow, node_builds, node_parts, node_planned, given_kept, gives_as}
use Rattle.node_store.proofs.StoreLaws.{gives_fewer}
use Rattle.set_algebra.proofs.Levels.{top_after}
use Rattle.set_algebra.proofs.PairLemmas.{answer_is, includes_is, operands}
use Rattle.set_algebra.specs.Pairs.{Asks, IsCutAt}
use Rattle.set_algebra.proofs.pointwise.finish.Goals as goal

-- the node over the halves, in the state v after them
may : {op : Op} {v : State} {x y lo hi : Handle} {var : ℕ} → IsSound v → Asks op v x y → IsCutAt v x y var
    → Denotes v lo (combine (test_of op) v.vars (low_cofactor (v.vars - var) (family v x)) (low_cofactor (v.vars - var) (family v y)))
    → Denotes v hi (combine (test_of op) v.vars (high_cofactor (v.vars - var) (family v x)) (high_cofactor (v.vars - var) (family v y)))
    → MayGrow v v var lo hi (combine (test_of op) v.vars (family v x) (family v y))
may {op} {v} {x} {y} {lo} {hi} {var} ok asks cut low high =
    let d : ℕ = v.vars - var in let less : d < v.vars = omega (arith, cut.first, cut.last) in let none = test_none op in
    let fits = top_after v x y (suc d) ok asks.first asks.second cut.top in
    may_grow d _ _ (Reads-refl v) less (omega (arith, cut.first, cut.last)) low high
    (combine-low_after (test_of op) none v.vars d (family v x) (family v y) fits.0 fits.1 less)
    (combine-high_after (test_of op) none v.vars d (family v x) (family v y) fits.0 fits.1 less)
    (combine-join (test_of op) none v.vars d (family v x) (family v y) fits.0 fits.1 less) asks.planned

pub grow-requires : goal.grow-requires
grow-requires g c =
    let ok = g.met.S.Store.sound c.args.store.now in let it = may ok c.requires.asks c.requires.cut c.requires.low c.requires.high in
    record { parts = node_parts it; planned = node_planned it ok }

pub keep-requires : goal.keep-requires
keep-requires g c =
    let it = may (g.met.S.Store.sound c.args.store.now) c.requires.asks c.requires.cut c.requires.low c.requires.high in
    let op = c.args.op in let s = g.S.Store.state c.args.store.now in let x = c.args.halved.x in let y = c.args.halved.y in
    let is = c.requires.op in
    given_kept (operands op s x y is c.requires.asks.first c.requires.asks.second)
    (IsAllowed-pointwise op s.vars (family s x) (second s op y.0) y.0 is)
    (gives_fewer (λ k h. sym (includes_is op s x y k is) ∙ h)
    (gives_as (sym (answer_is op s x y is)) refl (node_builds it c.in_ok-r.ensures)))

pub returns : goal.returns
returns g c = grind (arith, may (g.met.S.Store.sound c.args.store.now) c.requires.asks c.requires.cut c.requires.low c.requires.high)
