use Rattle.node_store.proofs.StoreLaws.{any_combined}
use Rattle.thread_tests.proofs.of_computed_cache.found.Goals as goal

pub union-requires-clause-planned : goal.union-requires-clause-planned
union-requires-clause-planned g c = any_combined _ _ _ _ _ c.lower.ensures.any

pub inter-requires : goal.inter-requires
inter-requires g c =
    let ready = c.in_ok-quarter.ensures.ready in
    record { a = ready.first; b = ready.second; planned = any_combined _ _ _ _ _ ready.any }
