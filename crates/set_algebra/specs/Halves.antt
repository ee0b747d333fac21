-- A family cut at its first variable.
use Rattle.std.specs.Prelude.{◌≡◌, ℕ, ◌^◌, ◌≤◌, suc}
use Rattle.lattice.specs.Family.{IsFamily}
use Rattle.lattice.specs.Cofactors.{join, level}
use Rattle.node_store.specs.Stores.{State, Knows, family}
use Rattle.node_store.specs.declared.store.Handle.{Handle}
use Rattle.set_algebra.specs.declared.halves.Halves.{Halves}

-- the halves of a's family at its first variable, of weight 2 ^ below; s is the state before, t the one after
pub record AreHalves (s t : State) (a : Handle) (h : Halves) : Type 0 where
  pub below : ℕ
  pub first : level s.vars (family s a) ≡ suc below
  pub weight : h.weight ≡ 2 ^ below
  pub low_known : Knows t h.low
  pub high_known : Knows t h.high
  pub low_after : level t.vars (family t h.low) ≤ below
  pub high_after : level t.vars (family t h.high) ≤ below
  pub low_fits : IsFamily below (family t h.low)
  pub whole : family s a ≡ join below (family t h.low) (family t h.high)
