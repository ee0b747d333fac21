-- What there is of an operation before its halves.
use Rattle.node_store.specs.declared.store.Handle.{Handle}
use Rattle.set_algebra.specs.declared.pointwise.Halved.{Halved}
use Rattle.set_algebra.specs.declared.pointwise.Begun.{Begun}
use Rattle.set_algebra.specs.declared.pointwise.Begun.TheVariants.{Done, Halves}

-- the fact holds of a result that needed no halves
abbrev pub IfDone : Begun → (Handle → Type 0) → Type 0
IfDone (Done r) P = P r
IfDone (Halves h) P = Unit {0}

-- the fact holds of the operands that are to be combined by halves
abbrev pub IfHalves : Begun → (Halved → Type 0) → Type 0
IfHalves (Done r) P = Unit {0}
IfHalves (Halves h) P = P h
