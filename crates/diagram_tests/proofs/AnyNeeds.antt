-- Plans that have every family, and what the calls on polynomials need.
use Rattle.std.proofs.Common.{◌≡◌, ℕ, List, [], ◌∷◌, is_some, ap, subst, arith}
use Rattle.lattice.specs.Words.{Family, IsFamily, Covers, ones_at, product_of, variable, operation_list, needs, working_set}
use Rattle.lattice.specs.declared.op.Op.TheVariants.{Ones, Product}
use Rattle.lattice.proofs.Polynomials.{IsFamily-family_where}
use Rattle.node_store.specs.Stores.{State, Knows, IsSound, IsPlanned, needs_of}
use Rattle.node_store.specs.AnyFamily.{MayHoldAny, every_family}
use Rattle.node_store.specs.Plain.{plain_state}
use Rattle.node_store.specs.PlainOf.{state_of}
use Rattle.node_store.specs.PlainLaws.{empty_known}
use Rattle.node_store.specs.declared.plain.PlainStore.{PlainStore}
use Rattle.node_store.proofs.StoreLaws.{MayHoldAny-made, known_after}
use Rattle.node_store.specs.declared.store.Handle.{Handle}
use Rattle.set_algebra.specs.ReadyStores.{IsReady}
use Rattle.bool_poly.proofs.OnesLemmas.{any_ones_set, IsFamily-product_of, any_product_list}

-- a store that was made for any family is ready
pub ready_made : (p : PlainStore) {vars : ℕ} (slots : ℕ) {fs : List Family} → state_of p ≡ plain_state vars slots fs 0 []
    → fs ≡ working_set vars (every_family vars) → IsReady vars (state_of p) (record { 0 = 0 }) (record { 0 = 0 })
ready_made p {vars} slots {fs} made any =
    let known = ap is_some (empty_known p.vars p.capacity p.plan.families p.refused p.nodes.keys) in
    record { any = MayHoldAny-made (state_of p) vars slots fs made any; first = known; second = known }

pub any_ones_at : (vars : ℕ) (s : State) (m : ℕ) (f : Family) → MayHoldAny vars s → IsPlanned s (ones_at s.vars m f)
any_ones_at vars s m f any = any.planned (ones_at s.vars m f) (subst (λ v. IsFamily v (ones_at s.vars m f))
    any.vars_are (IsFamily-family_where s.vars _))

pub any_ones : (vars : ℕ) (s : State) (h set : Handle) → IsSound s → Knows s h → Knows s set → MayHoldAny vars s
    → Covers s.plan (needs_of s Ones h set.0)
unfolding needs operation_list
any_ones vars s h set ok kh ks any = grind (arith, any_ones_set, known_after)

pub any_times : (vars : ℕ) (s : State) (f : Family) (var : ℕ) → MayHoldAny vars s
    → IsPlanned s (product_of s.vars f (variable s.vars var ∷ []))
any_times vars s f var any = grind (arith, IsFamily-product_of s.vars f (variable s.vars var ∷ []))

pub any_product : (vars : ℕ) (s : State) (a b : Handle) → IsSound s → Knows s a → Knows s b → MayHoldAny vars s
    → Covers s.plan (needs_of s Product a b.0)
unfolding needs operation_list
any_product vars s a b ok ka kb any = grind (arith, any_product_list)
