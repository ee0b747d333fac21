use Rattle.std.proofs.Common.{◌≡◌, ◌≢◌, ℕ, suc, ◌-◌, ◌<◌, sym, arith, false}
use Rattle.lattice.specs.Words.{Family, IsFamily, low_cofactor, high_cofactor, level}
use Rattle.lattice.proofs.Diagrams.{high_cofactor_none, low_cofactor_whole, low_cofactor-join, high_cofactor-join, level-below}
use Rattle.lattice.proofs.Diagrams.{IsFamily_level}
use Rattle.lattice.proofs.Polynomials.{IsFamily_wider}
use Rattle.node_store.specs.Stores.{State, Knows, family, Denotes, IsSound, Grows}
use Rattle.node_store.specs.declared.store.Handle.{Handle}
use Rattle.node_store.proofs.StoreLaws.{Knows-denotes, Grows-denotes, constant, node_level}
use Rattle.node_store.proofs.walk.parts_of.Goals as goal

-- the parts of a family that has no variable at d or above
whole_parts : (s t : State) (a : Handle) (d : ℕ) → IsSound t → Grows s t → Knows s a → IsFamily d (family s a)
    → Denotes t a (low_cofactor d (family s a)) × Denotes t (record { 0 = 0 }) (high_cofactor d (family s a))
whole_parts s t a d okt grows known fits =
    let none = high_cofactor_none d (family s a) fits in
    let low = low_cofactor_whole d (family s a) (IsFamily_wider d (suc d) (family s a) fits (omega arith)) none in
    (rw low (Grows-denotes s t a grows known), rw none okt.empty)

-- a family whose first variable is another one, that comes later
later : (f : Family) (d e n : ℕ) → IsFamily (suc d) f → IsFamily n f → d < n → level n f ≡ suc e → e ≢ d → IsFamily d f
later f d e n hf hn less lev ne = IsFamily_wider _ d f (IsFamily_level n f hn) (omega (arith, level-below (suc d) n f hf (omega arith)))

pub returns-in-Some : goal.returns-in-Some
returns-in-Some c = rw c.in-Some.is λ s t oks okt grows known found first last after.
    let n = c.in-Some.n in let parts = found.is_node.parts in
    let low = low_cofactor-join _ (family t n.lo) (family t n.hi) parts.lo_after in
    let high = high_cofactor-join _ (family t n.lo) (family t n.hi) parts.lo_after parts.hi_after in
    rw (← grows.vars, ← c.if-n-var.true, ← found.family_is, low, high)
    (Knows-denotes t n.lo parts.lo_known, Knows-denotes t n.hi parts.hi_known)

pub returns-in_default : goal.returns-in_default
returns-in_default c = rw c.in-Some.is λ s t oks okt grows known found first last after.
    let n = c.in-Some.n in let f = family s c.args.a in let node = found.is_node in
    whole_parts s t c.args.a (s.vars - c.args.var) okt grows known (later f (s.vars - c.args.var) (s.vars - n.var) s.vars after
    (oks.families c.args.a.0 f (Knows-denotes s c.args.a known)) (omega arith)
    (node_level s t n f okt node grows.vars (sym found.family_is)) (omega (arith, node.parts.last, grows.vars, c.if-n-var.false)))

pub returns-in_default-2 : goal.returns-in_default-2
returns-in_default-2 c = rw c.in_default.is λ s t oks okt grows known found first last after.
    whole_parts s t c.args.a (s.vars - c.args.var) okt grows known
    (IsFamily_wider 0 _ _ (constant s c.args.a oks (found.constant.0 (λ i. false))) (omega arith))
