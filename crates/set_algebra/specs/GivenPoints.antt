-- Points with their values, as calls give them.
use Rattle.std.specs.Prelude.{◌≡◌, Result, IfOk, OnOk, OnErr, List}
use Rattle.lattice.specs.Family.{Family, Covers}
use Rattle.node_store.specs.Stores.{State, Denotes, Grows, IsFull}
use Rattle.node_store.specs.declared.store.Full.{Full}
use Rattle.set_algebra.specs.declared.points.ValuedPoints.{ValuedPoints}

-- a call that gives the points of value 0 and those of value 1 and then holds the families that they needed, or finds the store full
pub record GivesPoints (before after : State) (result : Result ValuedPoints Full) (zero one : Family) (needed : List Family)
    : Type 0 where
  pub grows : Grows before after
  pub zeros : IfOk result (λ p. Denotes after p.zeros zero)
  pub ones : IfOk result (λ p. Denotes after p.ones one)
  pub held : OnOk result (Covers after.held needed)
  pub quiet : OnOk result (after.refusals ≡ before.refusals)
  pub full : OnErr result (IsFull before after)
