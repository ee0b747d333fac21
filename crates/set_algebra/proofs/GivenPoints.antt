-- Points with their values: that were not given, as a call failed, a call that failed for want of them, and that are given after reads or
-- as others.
use Rattle.std.proofs.Common.{◌≡◌, Result, Ok, Err, IsErr, List, [], arith, refl, rules}
use Rattle.lattice.specs.Words.{Family, Covers}
use Rattle.node_store.specs.Stores.{State, Grows, Reads, Gives}
use Rattle.node_store.specs.declared.store.Handle.{Handle}
use Rattle.node_store.specs.declared.store.Full.{Full}
use Rattle.node_store.proofs.StoreLaws.{Gives-after, Grows-trans, failed}
use Rattle.set_algebra.specs.GivenPoints.{GivesPoints}
use Rattle.set_algebra.specs.declared.points.ValuedPoints.{ValuedPoints}

-- a call after reads failed, in place of points
pub points_failed : {s t u : State} {r : Result ValuedPoints Full} {e : Full} {f zero one : Family} {needed more : List Family}
    → IsErr r → Reads s t → Gives t u (Err e) f needed → GivesPoints s u r zero one more
points_failed {r = Ok x} err reads is = cc
points_failed {r = Err x} err reads is = let both = Gives-after _ _ _ _ _ _ reads is in assumption

-- points that were not given after reads, in place of a result
pub failed_points : {s t u : State} {r : Result Handle Full} {e : Full} {zero one f : Family} {needed more : List Family}
    → IsErr r → Reads s t → GivesPoints t u (Err e) zero one needed → Gives s u r f more
failed_points {s} {t} {u} {r} {e} {f = f} {needed = needed} err reads is =
    let given : Gives t u (Err e) f needed = assumption in failed err reads given

-- points that are given after reads
pub points_after : {s t u : State} {r : Result ValuedPoints Full} {zeros ones : Family} {needed : List Family} → Reads s t
    → GivesPoints t u r zeros ones needed → GivesPoints s u r zeros ones needed
points_after {s = s} {t = t} {u = u} {r = Ok p} reads is = search (rules, arith, Grows-trans)
points_after {s = s} {t = t} {u = u} {r = Err e} reads is =
    let failed : Gives t u (Err e) [] [] = record { grows = is.grows; ok = tt; held = tt; quiet = tt; full = is.full } in
    points_failed refl reads failed

-- points that are given under other names, with more that is held
pub points_as : {s t : State} {r : Result ValuedPoints Full} {zeros ones zeros' ones' : Family} {needed more : List Family}
    → zeros ≡ zeros' → ones ≡ ones' → (Grows s t → Covers t.held needed → Covers t.held more) → GivesPoints s t r zeros ones needed
    → GivesPoints s t r zeros' ones' more
points_as {r = Ok p} z o held is = grind arith
points_as {r = Err e} z o held is = record { grows = is.grows; zeros = tt; ones = tt; held = tt; quiet = tt; full = is.full }
