use Rattle.node_store.proofs.StoreLaws.{MayHoldAny-later, any_combined}
use Rattle.diagram_tests.proofs.of_set_algebra.pair.Goals as goal

pub union-requires-clause-planned : goal.union-requires-clause-planned
union-requires-clause-planned g c =
    any_combined _ _ _ _ _ (MayHoldAny-later _ _ _ c.one-2.ensures.grows (MayHoldAny-later _ _ _ c.one.ensures.grows c.requires.ready.any))
