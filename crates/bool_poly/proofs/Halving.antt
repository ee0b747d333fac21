-- Points by halves: each half has later variables alone, by which the recursion ends, and both give the whole.
use Rattle.std.proofs.Common.{◌≡◌, ◌<◌, max, Ok, refl, arith}
use Rattle.lattice.specs.Words.{level, ones_of}
use Rattle.lattice.specs.declared.op.Op.TheVariants.{Ones}
use Rattle.node_store.specs.Stores.{State, family, Grows, Reads, Gives, Builds, needs_of}
use Rattle.node_store.specs.declared.store.Handle.{Handle}
use Rattle.node_store.proofs.StoreLaws.{Grows-family, Grows-knows, Reads-refl, then_call}
use Rattle.set_algebra.proofs.Calls.{hands_fall}
use Rattle.set_algebra.specs.Pairs.{AreCofactors}
use Rattle.set_algebra.specs.declared.pairs.Cofactors.{Cofactors}
use Rattle.bool_poly.specs.Parts.{AsksOnes, AsksWith, sum_at, with_needs}
use Rattle.bool_poly.proofs.Steps.{OnesCut, OnesFinish, after_with, ones_finish, with_after}

-- what is asked, in a later state
pub ones_later : (s t : State) (h set : Handle) → Grows s t → AsksOnes s h set → AsksOnes t h set
ones_later s t h set grows asks = grind (arith, Grows-knows, Grows-family)

-- the points and their needs there
pub same_ones : (s t : State) (h set : Handle) → Grows s t → AsksOnes s h set
    → (ones_of t.vars (family t h) (family t set) ≡ ones_of s.vars (family s h) (family s set))
    × (needs_of t Ones h set.0 ≡ needs_of s Ones h set.0)
same_ones s t h set grows asks =
    rw (grows.vars, Grows-family s t h grows asks.polynomial, Grows-family s t set grows asks.points) (refl, refl)

-- what the second half gives and needs there
pub same_with : (s t : State) (low high points : Handle) → Grows s t → AsksWith s low high points
    → (ones_of t.vars (sum_at t low high points) (family t points) ≡ ones_of s.vars (sum_at s low high points) (family s points))
    × (with_needs t low high points ≡ with_needs s low high points)
same_with s t low high points grows asks =
    let low_is = Grows-family s t low grows asks.low_known in let high_is = Grows-family s t high grows asks.high_known in
    rw (grows.vars, low_is, high_is, Grows-family s t points grows asks.points_known) (refl, refl)

-- the first half, in the state after the cut
pub low_falls : {s t : State} {h set : Handle} {c : Cofactors} → OnesCut s t h set c
    → max (level t.vars (family t c.a_low)) (level t.vars (family t c.b_low))
    < max (level s.vars (family s h)) (level s.vars (family s set))
low_falls cut = let k = cut.calls in hands_fall _ _ k k.here.0 k.here.1.1.0 cut.top

-- the second half, once there is the sum
pub high_falls : {s u v : State} {h set with : Handle} {c : Cofactors} → OnesCut s u h set c
    → Builds u v (Ok with) (sum_at u c.a_low c.a_high c.b_high)
    → max (level v.vars (family v with)) (level v.vars (family v c.b_high)) < max (level s.vars (family s h)) (level s.vars (family s set))
high_falls cut sum = let k = after_with cut sum in hands_fall _ _ k k.here.0 k.here.1.1.1.1.0 cut.top

-- both may be finished: t is the state after the cut, u the one after the first half, and v the one after the sum
pub halves_finish : {s t u v w : State} {h set with lo hi : Handle} {c : Cofactors} → AsksOnes s h set → AreCofactors s t h set c
    → Reads s t → AsksWith t c.a_low c.a_high c.b_high
    → Gives t u (Ok lo) (ones_of t.vars (family t c.a_low) (family t c.b_low)) (needs_of t Ones c.a_low c.b_low.0)
    → Builds u v (Ok with) (sum_at u c.a_low c.a_high c.b_high)
    → Gives v w (Ok hi) (ones_of v.vars (family v with) (family v c.b_high)) (needs_of v Ones with c.b_high.0)
    → OnesFinish s w h set h set c lo hi
halves_finish {t = t} {lo = lo} asks are reads with_asked one sum two =
    let second = with_after one.grows with_asked sum two in
    ones_finish asks (refl, refl) are reads (then_call (then_call (Reads-refl t) one) second) (second.grows.known lo.0 _ one.ok)
    (λ k i. second.grows.held k (one.held k i)) second.ok second.held
