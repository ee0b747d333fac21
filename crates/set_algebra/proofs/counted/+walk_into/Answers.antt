use Rattle.std.proofs.Common.{◌≡◌, ◌+◌, ap, arith, rules, length, Err, append_assoc, OnOk, Result, Ok, ◌++◌, List, ℕ}
use Rattle.node_store.specs.Stores.{family}
use Rattle.node_store.proofs.StoreLaws.{Grows-family, Grows-knows, then_reads}
use Rattle.set_algebra.proofs.Levels.{level_later}
use Rattle.set_algebra.proofs.HalvesLemmas.{length_halves, members_halves, base_high, base_low, length-more}
use Rattle.set_algebra.proofs.counted.+walk_into.Goals as goal

pub overflow_add-base : goal.overflow_add-base
overflow_add-base g m c = omega (arith, base_high c.in-Some.ensures.halves c.args.base c.requires.base)

pub walk_into-requires : goal.walk_into-requires
walk_into-requires g m c κs within =
    let are = c.in-Some.ensures.halves in let base = base_high are c.args.base c.requires.base in
    (omega (arith, are.first, are.high_after, c.decreases), (within, (are.high_known, (base, c.requires.within))))

pub returns-in_err-walk_into-in-Some-clause-over : goal.returns-in_err-walk_into-in-Some-clause-over
returns-in_err-walk_into-in-Some-clause-over g m c over = grind (arith, length_halves)

pub walk_into-requires-in-Some : goal.walk_into-requires-in-Some
walk_into-requires-in-Some g m c κs within =
    let are = c.in-Some.ensures.halves in let later = c.walk_into.ensures.reads.grows in
    let there = level_later _ _ c.in-Some.h.low later are.low_known in
    let known = Grows-knows _ _ c.in-Some.h.low later are.low_known in let base = base_low are c.args.base c.requires.base in (
      omega (arith, are.first, are.low_after, there, c.decreases),
      (within, (known, (rw there base, c.in_ok-walk_into-in-Some.ensures.within))),
    )

pub returns-in_ok-walk_into-in-Some-clause-reads : goal.returns-in_ok-walk_into-in-Some-clause-reads
returns-in_ok-walk_into-in-Some-clause-reads g m c = search (rules, arith, then_reads)

-- what was added in two calls, of which the second may have failed
added : {X E : Type 0} (r : Result X E) (old mid new xs ys zs : List ℕ) → mid ≡ old ++ xs → zs ≡ xs ++ ys → OnOk r (new ≡ mid ++ ys)
    → OnOk r (new ≡ old ++ zs)
added (Ok x) old mid new xs ys zs one whole two = rw (two, one, whole) (append_assoc old xs ys)
added (Err e) old mid new xs ys zs one whole two = tt

pub returns-in_ok-walk_into-in-Some-clause-members : goal.returns-in_ok-walk_into-in-Some-clause-members
returns-in_ok-walk_into-in-Some-clause-members g m c =
    let are = c.in-Some.ensures.halves in let same = Grows-family _ _ c.in-Some.h.low c.walk_into.ensures.reads.grows are.low_known in
    added c.walk_into-in-Some.result c.args.into.now c.walk_into.new.into c.walk_into-in-Some.new.into _ _ _
    c.in_ok-walk_into-in-Some.ensures.members (members_halves are c.args.base) (rw same at c.walk_into-in-Some.ensures.members)

pub returns-in_ok-walk_into-in-Some-clause-over : goal.returns-in_ok-walk_into-in-Some-clause-over
returns-in_ok-walk_into-in-Some-clause-over g m c over =
    let are = c.in-Some.ensures.halves in let same = Grows-family _ _ c.in-Some.h.low c.walk_into.ensures.reads.grows are.low_known in
    let high = family (g.S.Store.state c.split.new.store) c.in-Some.h.high in
    let first = length-more c.args.into.now _ (c.args.base + c.in-Some.h.weight) high c.in_ok-walk_into-in-Some.ensures.members in
    omega (arith, length_halves are, ap length same, first, c.walk_into-in-Some.ensures.over over)
