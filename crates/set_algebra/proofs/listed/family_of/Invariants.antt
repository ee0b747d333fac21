use Rattle.std.proofs.Common.{take}
use Rattle.lattice.specs.Words.{has, family_where}
use Rattle.node_store.specs.Stores.{Denotes, Reads}
use Rattle.node_store.specs.AnyFamily.{MayHoldAny}
use Rattle.set_algebra.proofs.listed.family_of.Given as goal

abbrev pub invariant-loop-m : goal.invariant-loop-m
invariant-loop-m g l = record {
  any : MayHoldAny l.vars (g.S.Store.state l.store);
  reads : Reads (g.S.Store.state l.fn.store) (g.S.Store.state l.store);
  members : Denotes (g.S.Store.state l.store) l.all (family_where l.vars (has (take l.m-index l.numbers)));
}
