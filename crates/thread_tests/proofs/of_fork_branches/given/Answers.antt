use Rattle.std.proofs.Common.{arith, subst}
use Rattle.lattice.specs.Words.{IsFamily, needs, operation_list}
use Rattle.node_store.specs.Stores.{family}
use Rattle.node_store.proofs.StoreLaws.{MayHoldAny-later, any_combined, known_after, Denotes-knows, Grows-knows}
use Rattle.bool_poly.proofs.OnesLemmas.{any_ones_set}
use Rattle.thread_tests.proofs.of_fork_branches.given.Goals as goal

pub union-requires-clause-planned : goal.union-requires-clause-planned
union-requires-clause-planned g c = any_combined _ 3 _ _ _
    (MayHoldAny-later 3 _ _ c.family_of-2.ensures.grows (MayHoldAny-later 3 _ _ c.family_of.ensures.grows c.requires.any))

pub inter-requires-clause-planned : goal.inter-requires-clause-planned
inter-requires-clause-planned g c = any_combined _ 3 _ _ _
    (MayHoldAny-later 3 _ _ c.family_of-2.ensures.grows (MayHoldAny-later 3 _ _ c.family_of.ensures.grows c.requires.any))

pub minus-requires-clause-planned : goal.minus-requires-clause-planned
minus-requires-clause-planned g c = any_combined _ 3 _ _ _
    (MayHoldAny-later 3 _ _ c.family_of-2.ensures.grows (MayHoldAny-later 3 _ _ c.family_of.ensures.grows c.requires.any))

pub xor-requires-clause-planned : goal.xor-requires-clause-planned
xor-requires-clause-planned g c = any_combined _ 3 _ _ _
    (MayHoldAny-later 3 _ _ c.family_of-2.ensures.grows (MayHoldAny-later 3 _ _ c.family_of.ensures.grows c.requires.any))

pub ones_of-requires-clause-planned : goal.ones_of-requires-clause-planned
unfolding needs operation_list
ones_of-requires-clause-planned g c =
    let s = g.S.Store.state c.family_of.new.store in let t = g.S.Store.state c.family_of-2.new.store in
    let any = MayHoldAny-later 3 s t c.family_of-2.ensures.grows (MayHoldAny-later 3 _ s c.family_of.ensures.grows c.requires.any) in
    let sound = g.met.S.Store.sound c.family_of-2.new.store in
    any_ones_set t.plan t.vars (λ f is. any.planned f (subst (λ v. IsFamily v f) any.vars_are is)) t.vars (omega arith)
    (family t c.in_ok-a.a) (family t c.in_ok-b.b)
    (known_after t c.in_ok-a.a sound (Grows-knows s t c.in_ok-a.a c.family_of-2.ensures.grows
    (Denotes-knows s c.in_ok-a.a _ c.in_ok-a.ensures.ok)))
    (known_after t c.in_ok-b.b sound (Denotes-knows t c.in_ok-b.b _ c.in_ok-b.ensures.ok))
