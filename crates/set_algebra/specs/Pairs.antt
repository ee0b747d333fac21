-- Two families in an operation: in which order, and cut at their first variable.
use Rattle.std.specs.Prelude.{◌≡◌, ℕ, Option, Some, None, Bool, suc, ◌-◌, ◌≤◌, ◌⊎◌, max}
use Rattle.lattice.specs.Cofactors.{low_cofactor, high_cofactor, level}
use Rattle.lattice.specs.Operations.{test_of}
use Rattle.lattice.specs.declared.op.Op.{Op}
use Rattle.lattice.specs.Family.{combine}
use Rattle.node_store.specs.Stores.{State, Knows, Denotes, family, IsPlanned}
use Rattle.node_store.specs.declared.store.Handle.{Handle}
use Rattle.node_store.specs.declared.store.Node.{Node}
use Rattle.set_algebra.specs.declared.pairs.Cofactors.{Cofactors}

-- x and y are a and b, or the other way round where the operation gives the same
abbrev pub AreInOrder : Op → Handle → Handle → Handle → Handle → Type 0
AreInOrder op a b x y = ((x ≡ a) × (y ≡ b)) ⊎ ((x ≡ b) × (y ≡ a) × ((p q : Bool) → test_of op p q ≡ test_of op q p))

-- how many of n variables there are from a node's on; none for a constant
abbrev pub level_at : ℕ → Option Node → ℕ
level_at n None = 0
level_at n (Some m) = suc (n - m.var)

-- the node, if there is one, has one of n variables
abbrev pub IsAt : ℕ → Option Node → Type 0
IsAt n None = Unit {0}
IsAt n (Some m) = (1 ≤ m.var) × (m.var ≤ n)

-- var is the first variable of two nodes
abbrev pub IsFirstOf : Option Node → Option Node → ℕ → Type 0
IsFirstOf first second var =
    (n : ℕ) → IsAt n first → IsAt n second → (1 ≤ var) × (var ≤ n) × (max (level_at n first) (level_at n second) ≡ suc (n - var))

-- var is the first variable of the families of a and b
pub record IsCutAt (s : State) (a b : Handle) (var : ℕ) : Type 0 where
  pub first : 1 ≤ var
  pub last : var ≤ s.vars
  pub top : max (level s.vars (family s a)) (level s.vars (family s b)) ≡ suc (s.vars - var)

-- both handles are known, and the plan has the families of the operation's result
pub record Asks (op : Op) (s : State) (a b : Handle) : Type 0 where
  pub first : Knows s a
  pub second : Knows s b
  pub planned : IsPlanned s (combine (test_of op) s.vars (family s a) (family s b))

-- the parts of the families of a and b at the first variable of both; s is the state before, t the one after
pub record AreCofactors (s t : State) (a b : Handle) (h : Cofactors) : Type 0 where
  pub first : 1 ≤ h.var
  pub last : h.var ≤ s.vars
  pub top : max (level s.vars (family s a)) (level s.vars (family s b)) ≡ suc (s.vars - h.var)
  pub a_low : Denotes t h.a_low (low_cofactor (s.vars - h.var) (family s a))
  pub a_high : Denotes t h.a_high (high_cofactor (s.vars - h.var) (family s a))
  pub b_low : Denotes t h.b_low (low_cofactor (s.vars - h.var) (family s b))
  pub b_high : Denotes t h.b_high (high_cofactor (s.vars - h.var) (family s b))
