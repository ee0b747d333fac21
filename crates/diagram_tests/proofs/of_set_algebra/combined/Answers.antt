use Rattle.node_store.proofs.StoreLaws.{any_combined}
use Rattle.diagram_tests.proofs.of_set_algebra.combined.Goals as goal

pub union-requires-clause-planned : goal.union-requires-clause-planned
union-requires-clause-planned g c = any_combined _ _ _ _ _ c.requires.any

pub inter-requires-clause-planned : goal.inter-requires-clause-planned
inter-requires-clause-planned g c = any_combined _ _ _ _ _ c.requires.any

pub minus-requires-clause-planned : goal.minus-requires-clause-planned
minus-requires-clause-planned g c = any_combined _ _ _ _ _ c.requires.any

pub xor-requires : goal.xor-requires
xor-requires g c = record { a = c.requires.first; b = c.requires.second; planned = any_combined _ _ _ _ _ c.requires.any }
