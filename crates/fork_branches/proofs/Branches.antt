-- Two branches on one table: each goes on from a twin of the state, which then takes in what both know.
use Rattle.std.proofs.Common.{◌≡◌, ◌∙◌, ◌++◌, ◌<◌, ◌≤◌, ℕ, ap, arith, Result, Ok, Err, List, rules}
use Rattle.std.specs.Prelude.{IsErr}
use Rattle.lattice.specs.Words.{Family, Rose}
use Rattle.node_store.specs.Stores.{State, Grows, IsFull, IsSound, Gives, Reads}
use Rattle.node_store.specs.declared.store.Handle.{Handle}
use Rattle.node_store.specs.declared.store.Full.{Full}
use Rattle.node_store.proofs.StoreLaws.{Grows-refl, Grows-trans}
use Rattle.unique_table.specs.Passes.{IsJoined, twin_of}
use Rattle.lattice.specs.declared.entry.Entry.{Entry}
use Rattle.lattice.specs.declared.op.Op.{Op}
use Rattle.set_algebra.specs.Pairs.{AreCofactors, AreInOrder}
use Rattle.set_algebra.specs.declared.pairs.Cofactors.{Cofactors}
use Rattle.fork_branches.specs.Branches.{GivesBoth, TakesBoth, ForksCombining, IsForkedCombining, ForksFinding, IsForkedFinding, pair_of}

-- s is the state, whose twin went on to y, and t, a later state of s, took in what y knows, which gives u
module _ {s y t u : State} (later : Grows s t) (joined : IsJoined t y u) where
  pub branch_full : Grows (twin_of s) y → IsFull (twin_of s) y → IsFull s u
  branch_full grows full = let rose : Rose 0 y.refusals = full.rose in grind arith

  pub branch_quiet : IsSound t → y.refusals ≡ 0 → u.refusals ≡ t.refusals
  branch_quiet sound quiet = omega (arith, joined.refusals, sound.counted)

-- a state after a refusal
pub full_later : {s t u : State} → IsSound u → Grows t u → IsFull s t → IsFull s u
full_later sound grows full = grind arith

-- one twin of s went on to y and another one to w; u is s with what y knows, and v is u with what w knows
pub joined_grows : {s y u w v : State} → IsJoined s y u → IsJoined u w v → Grows s v
joined_grows {s} {y} {u} {w} {v} one two = Grows-trans s u v one.grows two.grows

module _ {s y u w v : State} {f g : Family} {needed more : List Family} (oks : IsSound s) (oku : IsSound u) (okv : IsSound v)
    (one : IsJoined s y u) (two : IsJoined u w v) where
  pub both_gives : (lo hi : Result Handle Full) → Gives (twin_of s) y lo f needed → Gives (twin_of s) w hi g more
      → GivesBoth s v (pair_of lo hi) f g needed more
  both_gives (Ok lo) (Ok hi) low high =
      let quiet = branch_quiet one.grows two oku high.quiet ∙ branch_quiet (Grows-refl s) one oks low.quiet in
      let all = joined_grows one two in let on = two.grows in
      search (all, on.known, one.known, low, two.known, high, on.held, one.held, low.held, two.held, high.held, rules)
  both_gives (Err e) hi low high =
      search (joined_grows one two, full_later okv two.grows (branch_full (Grows-refl s) one low.grows low.full), rules)
  both_gives (Ok lo) (Err e) low high = search (joined_grows one two, branch_full one.grows two high.grows high.full, rules)

-- u knows, holds and did what s and y did, and v what u and w did
pub takes_both : {s y u w v : State} → IsJoined s y u → IsJoined u w v → TakesBoth s y w v
takes_both {w = w} one two = record {
  grows = joined_grows one two;
  first_known = λ h f is. two.grows.known h f (one.known h f is);
  second_known = two.known;
  first_held = λ f i. two.grows.held f (one.held f i);
  second_held = two.held;
  history = two.history ∙ ap (λ (es : List Entry). es ++ w.history) one.history;
}

-- a pointwise operation that was cut, where what ran on both halves is known
pub forked_combining : {op : Op} {s here joined t : State} {a b x y : Handle} {workers before : ℕ} {c : Cofactors}
    {r : Result (Handle × Handle) Full} → AreInOrder op a b x y → Reads s here → AreCofactors s here x y c
    → (2 ≤ workers → c.var < before → ForksCombining op here joined c.a_low c.b_low c.a_high c.b_high r) → Grows joined t
    → IsForkedCombining op s t a b workers before
forked_combining {here = here} {joined = joined} {x = x} {y = y} {c = c} {r = r} order reads are forks later = record {
  x = x;
  y = y;
  order = order;
  forked = record { here = here; reads = reads; cofactors = c; are = are; joined = joined; result = r; forks = forks; later = later };
}

-- and for the points where a polynomial is 1
pub forked_finding : {s here joined t : State} {h set x y : Handle} {workers before : ℕ} {c : Cofactors}
    {r : Result (Handle × Handle) Full} → (x ≡ h) × (y ≡ set) → Reads s here → AreCofactors s here x y c
    → (2 ≤ workers → c.var < before → ForksFinding here joined c.a_low c.b_low c.a_high c.b_high r) → Grows joined t
    → IsForkedFinding s t h set workers before
forked_finding {here = here} {joined = joined} {c = c} {r = r} same reads are forks later = record {
  here = here;
  reads = reads;
  cofactors = c;
  are = rw (same.0, same.1) at are;
  joined = joined;
  result = r;
  forks = forks;
  later = later;
}

-- ---- two calls one after the other

pub in_row : {s t u : State} {lo hi : Handle} {f g : Family} {needed more : List Family} → Gives s t (Ok lo) f needed
    → Gives t u (Ok hi) g more → GivesBoth s u (Ok (lo, hi)) f g needed more
in_row {s} {t} {u} low high =
    let quiet = high.quiet ∙ low.quiet in
    search (Grows-trans s t u low.grows high.grows, high.grows.known, low.ok, high, high.grows.held, low.held, rules)

-- the high half before the low one
pub turned_row : {s t u : State} {lo hi : Handle} {f g : Family} {needed more : List Family} → Gives s t (Ok hi) g more
    → Gives t u (Ok lo) f needed → GivesBoth s u (Ok (lo, hi)) f g needed more
turned_row {s} {t} {u} high low =
    let quiet = low.quiet ∙ high.quiet in
    search (Grows-trans s t u high.grows low.grows, low.grows.known, high.ok, low, low.grows.held, high.held, rules)

-- the second call failed after the first one
pub then_failed : {s t u : State} {h : Handle} {e : Full} {f f' g g' : Family} {needed needed' more more' : List Family}
    (r : Result (Handle × Handle) Full) → IsErr r → Gives s t (Ok h) f' needed' → Gives t u (Err e) g' more'
    → GivesBoth s u r f g needed more
then_failed (Ok p) err one two = cc
then_failed {s} {t} {u} (Err e) err one two = record {
  grows = Grows-trans s t u one.grows two.grows;
  low = tt;
  high = tt;
  low_held = tt;
  high_held = tt;
  quiet = tt;
  full = record { rose = rw one.quiet at two.full.rose; over = two.full.over };
}

-- both are there, and nothing was refused
pub both_reads : {s t : State} {lo hi : Handle} {f g : Family} {needed more : List Family} → GivesBoth s t (Ok (lo, hi)) f g needed more
    → Reads s t
both_reads both = assumption
