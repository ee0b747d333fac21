use Rattle.std.proofs.Common.{◌≡◌, ◌-◌, suc, max, Option, Some, None, arith, false}
use Rattle.lattice.specs.Words.{level}
use Rattle.node_store.specs.Stores.{State, family, IsNodeOf, IsSound, Grows}
use Rattle.node_store.specs.declared.store.Handle.{Handle}
use Rattle.node_store.specs.declared.store.Node.{Node}
use Rattle.node_store.proofs.StoreLaws.{Grows-family, Grows-knows, level_constant, node_level}
use Rattle.set_algebra.specs.Pairs.{level_at, IsAt}
use Rattle.set_algebra.proofs.Levels.{top_after}
use Rattle.set_algebra.proofs.pairs.cut.Goals as goal

-- the level of a family is that of its handle's node; s is the state before the node was asked for, t the one after
level_found : (s t : State) (a : Handle) (node : Option Node) → IsSound s → IsSound t → Grows s t → IsNodeOf s t a node
    → (level s.vars (family s a) ≡ level_at s.vars node) × IsAt s.vars node
level_found s t a (Some n) oks okt grows found = grind (arith, node_level)
level_found s t a None oks okt grows found = (level_constant s a oks (found.constant.0 (λ i. false)), tt)

pub returns-clause-cofactors : goal.returns-clause-cofactors
returns-clause-cofactors g c =
    let a = c.args.a in let b = c.args.b in let s = g.S.Store.state c.args.store.now in
    let t = g.S.Store.state c.node-first.new.self in let u = g.S.Store.state c.node-second.new.self in
    let oks = g.met.S.Store.sound c.args.store.now in let okt = g.met.S.Store.sound c.node-first.new.self in
    let oku = g.met.S.Store.sound c.node-second.new.self in
    let na = c.node-first.ensures in let nb = c.node-second.ensures in let one = na.reads.grows in let two = nb.reads.grows in
    let fa : IsNodeOf s t a _ = record { constant = na.constant; is_node = na.node; family_is = na.family } in
    let fb : IsNodeOf t u b _ = record { constant = nb.constant; is_node = nb.node; family_is = nb.family } in
    let left = level_found s t a _ oks okt one fa in let right = level_found t u b _ okt oku two fb in
    let b_is = Grows-family s t b one c.requires.b in
    let first = c.first_of-var.ensures s.vars left.1 (rw (← one.vars) right.1) in
    let top : max (level s.vars (family s a)) (level s.vars (family s b)) ≡ suc (s.vars - c.first_of-var.result) =
    rw (left.0, ← b_is, ← one.vars, right.0, one.vars) first.2 in
    let both = top_after s a b _ oks c.requires.a c.requires.b top in
    let pa = c.parts_of.ensures s t oks okt one c.requires.a fa first.0 first.1 both.0 in
    let pb = c.parts_of-2.ensures t u okt oku two (Grows-knows s t b one c.requires.b) fb first.0 (rw one.vars first.1)
    (rw (one.vars, b_is) both.1) in
    grind (arith, two.known)
