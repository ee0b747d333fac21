-- What a pass shows is true of every store, and is so in one way at most.
use Rattle.std.proofs.Props.{props}
use Rattle.node_store.proofs.StoreLaws.{IsSound-prop}
use Rattle.unique_table.specs.declared.view.View.{View}
use Rattle.unique_table.specs.Rule.{IsSoundView}

pub IsSoundView-prop : (v : View) → IsProp (IsSoundView v)
IsSoundView-prop v = hlevel (IsSound-prop, props)
