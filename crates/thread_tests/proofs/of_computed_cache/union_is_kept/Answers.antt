use Rattle.std.proofs.Common.{ℕ, ◌^◌, ◌∙◌, ◌≤◌, arith, pow_mono}
use Rattle.lattice.specs.Words.{cache_bits}
use Rattle.node_store.proofs.StoreLaws.{any_combined, MayHoldAny-later}
use Rattle.unique_table.specs.PassOf.{bits_of}
use Rattle.thread_tests.proofs.TestedStores.{any_first}
use Rattle.computed_cache.specs.Cached.{cached_state}
use Rattle.thread_tests.proofs.of_computed_cache.union_is_kept.Goals as goal

pub lower-requires : goal.lower-requires
lower-requires g c = any_first (cached_state c.new-pass.result) _ 4 3 _
    (c.new-pass.ensures.state ∙ (c.pass.ensures.state ∙ c.in_ok-table.ensures.state)) c.any_plan.ensures

pub union-requires-clause-planned : goal.union-requires-clause-planned
union-requires-clause-planned g c = any_combined _ _ _ _ _ (MayHoldAny-later 3 _ _ c.look.ensures.reads.grows c.lower.ensures.any)

pub cache_load-requires : goal.cache_load-requires
cache_load-requires g c =
    let b : ℕ = cache_bits (bits_of c.end.result) in let least : 12 ≤ b = omega arith in
    let n : ℕ = 2 ^ b in let most : 4096 ≤ n = pow_mono least in omega arith
