-- What branches do: the operations, and two of them beside each other.
use Rattle.std.specs.Prelude.{◌≡◌, ℕ, ◌<◌, ◌≤◌, Result, Ok, Err, IfOk, OnOk, OnErr, Some, List, ◌++◌}
use Rattle.lattice.specs.Family.{Family, Covers, combine}
use Rattle.lattice.specs.Cofactors.{sub}
use Rattle.lattice.specs.Operations.{test_of}
use Rattle.lattice.specs.Polynomial.{ones_of}
use Rattle.lattice.specs.declared.op.Op.{Op}
use Rattle.lattice.specs.declared.op.Op.TheVariants.{Ones}
use Rattle.node_store.specs.Stores.{State, Denotes, family, Grows, Reads, IsFull, Gives, Builds, needs_of}
use Rattle.node_store.specs.declared.store.Handle.{Handle}
use Rattle.node_store.specs.declared.store.Full.{Full}
use Rattle.set_algebra.specs.Pairs.{AreInOrder, AreCofactors}
use Rattle.set_algebra.specs.declared.pairs.Cofactors.{Cofactors}
use Rattle.bool_poly.specs.Parts.{sum_at, with_needs}
use Rattle.unique_table.specs.Passes.{token_state, twin_of}
use Rattle.unique_table.specs.declared.pass.Token.{Token}

-- the result of a pointwise operation
abbrev pub combined : Op → State → Handle → Handle → Family
combined op s a b = combine (test_of op) s.vars (family s a) (family s b)

-- a call that gives it, as the plain one does
abbrev pub Combines : Op → State → State → Handle → Handle → Result Handle Full → Type 0
Combines op s t a b r = Builds s t r (combined op s a b)

-- the points of a set at which a polynomial is 1
abbrev pub ones_at : State → Handle → Handle → Family
ones_at s h set = ones_of s.vars (family s h) (family s set)

-- a call that gives them, as the plain one does
abbrev pub FindsOnes : State → State → Handle → Handle → Result Handle Full → Type 0
FindsOnes s t h set r = Gives s t r (ones_at s h set) (needs_of s Ones h set.0)

-- the points with a variable at which a polynomial is 1 that is low without it and high with it
abbrev pub ones_with : State → Handle → Handle → Handle → Family
ones_with s low high points = ones_of s.vars (sum_at s low high points) (family s points)

-- a call that gives them
abbrev pub FindsWith : State → State → Handle → Handle → Handle → Result Handle Full → Type 0
FindsWith s t low high points r = Gives s t r (ones_with s low high points) (with_needs s low high points)

-- both results, or Full where one is
abbrev pub pair_of : Result Handle Full → Result Handle Full → Result (Handle × Handle) Full
pair_of (Ok lo) (Ok hi) = Ok (lo, hi)
pair_of (Ok lo) (Err e) = Err e
pair_of (Err e) hi = Err e

-- two calls that give the handles of f and g and then hold what both needed, or of which one finds the store full
pub record GivesBoth (before after : State) (result : Result (Handle × Handle) Full) (f g : Family) (needed more : List Family)
    : Type 0 where
  pub grows : Grows before after
  pub low : IfOk result (λ p. Denotes after p.0 f)
  pub high : IfOk result (λ p. Denotes after p.1 g)
  pub low_held : OnOk result (Covers after.held needed)
  pub high_held : OnOk result (Covers after.held more)
  pub quiet : OnOk result (after.refusals ≡ before.refusals)
  pub full : OnErr result (IsFull before after)

-- the low and the high parts combined
abbrev pub CombinesBoth : Op → State → State → Handle → Handle → Handle → Handle → Result (Handle × Handle) Full → Type 0
CombinesBoth op s t a b c d r =
    GivesBoth s t r (combined op s a b) (combined op s c d) (sub s.vars (combined op s a b)) (sub s.vars (combined op s c d))

-- the points without the variable and those with it at which a polynomial is 1 that is low without it and high with it
abbrev pub FindsBoth : State → State → Handle → Handle → Handle → Handle → Result (Handle × Handle) Full → Type 0
FindsBoth s t low points high with r =
    GivesBoth s t r (ones_at s low points) (ones_with s low high with) (needs_of s Ones low points.0) (with_needs s low high with)

-- ---- what a pass takes in

-- t knows, holds and did what s and both of the others did
pub record TakesBoth (s first second t : State) : Type 0 where
  pub grows : Grows s t
  pub first_known : (h : ℕ) (f : Family) → first.known h ≡ Some f → t.known h ≡ Some f
  pub second_known : (h : ℕ) (f : Family) → second.known h ≡ Some f → t.known h ≡ Some f
  pub first_held : Covers t.held first.held
  pub second_held : Covers t.held second.held
  pub history : t.history ≡ (s.history ++ first.history) ++ second.history

-- two branches ran in the state s, each with a result and to the token that it gave back, and t took in what both know, hold and
-- did, whether or not one of them found the store full
pub record Forks (s t : State) (result : Result (Handle × Handle) Full) (Low High : State → Result Handle Full → Type 0) : Type 0 where
  pub first : Token
  pub second : Token
  pub low : Result Handle Full
  pub high : Result Handle Full
  pub one : Low (token_state first) low
  pub two : High (token_state second) high
  pub both : result ≡ pair_of low high
  pub takes : TakesBoth s (token_state first) (token_state second) t

-- branches that combine the low and the high parts, each from a twin of s
abbrev pub ForksCombining : Op → State → State → Handle → Handle → Handle → Handle → Result (Handle × Handle) Full → Type 0
ForksCombining op s t a b c d r =
    Forks s t r (λ u q. Combines op (twin_of s) u a b q) (λ u q. Combines op (twin_of s) u c d q)

-- branches that find the points without the variable and those with it
abbrev pub ForksFinding : State → State → Handle → Handle → Handle → Handle → Result (Handle × Handle) Full → Type 0
ForksFinding s t low points high with r =
    Forks s t r (λ u q. FindsOnes (twin_of s) u low points q) (λ u q. FindsWith (twin_of s) u low high with q)

-- an operation on a and b was cut into halves at their first variable, in the state `here`. With two workers or more, and a first
-- variable before `before`, two branches ran from there, and t is a later state of the one that took in what both of them left
pub record IsForked (s t : State) (a b : Handle) (workers before : ℕ)
    (Run : State → State → Cofactors → Result (Handle × Handle) Full → Type 0) : Type 0 where
  pub here : State
  pub reads : Reads s here
  pub cofactors : Cofactors
  pub are : AreCofactors s here a b cofactors
  pub joined : State
  pub result : Result (Handle × Handle) Full
  pub forks : 2 ≤ workers → cofactors.var < before → Run here joined cofactors result
  pub later : Grows joined t

-- so for a pointwise operation, with its operands in order
pub record IsForkedCombining (op : Op) (s t : State) (a b : Handle) (workers before : ℕ) : Type 0 where
  pub x : Handle
  pub y : Handle
  pub order : AreInOrder op a b x y
  pub forked : IsForked s t x y workers before (λ here joined c r. ForksCombining op here joined c.a_low c.b_low c.a_high c.b_high r)

-- and for the points at which a polynomial is 1
abbrev pub IsForkedFinding : State → State → Handle → Handle → ℕ → ℕ → Type 0
IsForkedFinding s t h set workers before =
    IsForked s t h set workers before (λ here joined c r. ForksFinding here joined c.a_low c.b_low c.a_high c.b_high r)
