use Rattle.std.proofs.Common.{◌<◌, Err, ap, length, subst}
use Rattle.std.proofs.lemmas.List.{reverse-reverse}
use Rattle.lattice.proofs.Polynomials.{IsLeast-unique}
use Rattle.node_store.specs.PlainOf.{state_of}
use Rattle.node_store.specs.Stores.{family}
use Rattle.node_store.proofs.StoreLaws.{Grows-trans, MayHoldAny-later, MayHoldAny-made}
use Rattle.set_algebra.proofs.Calls.{walk_was_over}
use Rattle.interp_lex.proofs.InterpolationNeeds.{any_least}
use Rattle.uses_library.proofs.ListedPoints.{any, apart, least_on, over_plan}
use Rattle.uses_library.proofs.listed.least_terms.Goals as goal

pub family_of-requires-clause-any : goal.family_of-requires-clause-any
family_of-requires-clause-any c =
    MayHoldAny-made (state_of c.in_ok-store.store) c.args.inputs _ _ c.in_ok-store.ensures.state c.any_plan.ensures

pub family_of-requires-2-clause-any : goal.family_of-requires-2-clause-any
family_of-requires-2-clause-any c =
    let s = state_of c.in_ok-store.store in
    MayHoldAny-later c.args.inputs s (state_of c.family_of.new.store) c.family_of.ensures.grows
    (MayHoldAny-made s c.args.inputs _ _ c.in_ok-store.ensures.state c.any_plan.ensures)

pub least-requires-clause-disjoint : goal.least-requires-clause-disjoint
least-requires-clause-disjoint c =
    apart c.args.inputs _ _ _ _ _ c.in_ok-store.ensures.state c.family_of.ensures.grows c.family_of-2.ensures.grows
    c.in_ok-zeros.zeros c.in_ok-ones.ones c.args.zeros.now c.args.ones.now c.in_ok-zeros.ensures.ok c.in_ok-ones.ensures.ok
    c.requires.apart

pub least-requires-clause-planned : goal.least-requires-clause-planned
least-requires-clause-planned c =
    any_least c.args.inputs (state_of c.family_of-2.new.store) c.in_ok-zeros.zeros c.in_ok-ones.ones
    (any c.args.inputs _ _ _ _ _ c.in_ok-store.ensures.state c.family_of.ensures.grows c.family_of-2.ensures.grows c.any_plan.ensures)

pub returns-clause-least : goal.returns-clause-least
returns-clause-least c =
    rw (c.in_ok-walk_upto.ensures.members, reverse-reverse (family (state_of c.least.new.store) c.in_ok-found.found))
    (least_on c.args.inputs _ _ _ _ _ c.in_ok-store.ensures.state c.family_of.ensures.grows c.family_of-2.ensures.grows
    c.in_ok-zeros.zeros c.in_ok-ones.ones c.args.zeros.now c.args.ones.now c.in_ok-zeros.ensures.ok c.in_ok-ones.ensures.ok
    (family (state_of c.least.new.store) c.in_ok-found.found) c.requires.zeros c.requires.ones c.in_ok-found.ensures.least)

pub returns-in_err-walk_upto-clause-over : goal.returns-in_err-walk_upto-clause-over
returns-in_err-walk_upto-clause-over c = λ over p is.
    let found = family (state_of c.least.new.store) c.in_ok-found.found in
    subst (λ q. c.args.limit < length q)
    (IsLeast-unique c.args.inputs c.args.zeros.now c.args.ones.now found p
    (least_on c.args.inputs _ _ _ _ _ c.in_ok-store.ensures.state c.family_of.ensures.grows c.family_of-2.ensures.grows
    c.in_ok-zeros.zeros c.in_ok-ones.ones c.args.zeros.now c.args.ones.now c.in_ok-zeros.ensures.ok c.in_ok-ones.ensures.ok
    found c.requires.zeros c.requires.ones c.in_ok-found.ensures.least) is)
    (c.in_err-walk_upto.ensures.over (ap Err (walk_was_over c.from_residual-in_err-walk_upto.result c.in_err-walk_upto.field-0.0
    c.from_residual-in_err-walk_upto.ensures.1 over)))

pub returns-in_err-zeros-clause-full : goal.returns-in_err-zeros-clause-full
returns-in_err-zeros-clause-full c = λ is. rw (← c.any_plan.ensures)
    (over_plan c.args.inputs _ _ _ _ _ c.in_ok-store.ensures.state c.family_of.ensures.grows c.in_err-zeros.ensures.full)

pub returns-in_err-ones-clause-full : goal.returns-in_err-ones-clause-full
returns-in_err-ones-clause-full c = λ is. rw (← c.any_plan.ensures)
    (over_plan c.args.inputs _ _ _ _ _ c.in_ok-store.ensures.state
    (Grows-trans _ _ _ c.family_of.ensures.grows c.family_of-2.ensures.grows) c.in_err-ones.ensures.full)

pub returns-in_err-found-clause-full : goal.returns-in_err-found-clause-full
returns-in_err-found-clause-full c = λ is. rw (← c.any_plan.ensures)
    (over_plan c.args.inputs _ _ _ _ _ c.in_ok-store.ensures.state
    (Grows-trans _ _ _ (Grows-trans _ _ _ c.family_of.ensures.grows c.family_of-2.ensures.grows) c.least.ensures.result.grows)
    c.in_err-found.ensures.result.full)
