use Rattle.std.proofs.Common.{arith}
use Rattle.std.proofs.Math.Facts.{Fits-below}
use Rattle.lattice.specs.Words.{key_for}
use Rattle.computed_cache.proofs.Slots.{place_is, base_is, place_inside, small_quotient}
use Rattle.computed_cache.proofs.slot.slot_of.Goals as goal

pub overflow_mul-result : goal.overflow_mul-result
overflow_mul-result c =
    let is = base_is c.args.cache_bits _ _ c.requires.high c.key.ensures.key in
    let less = small_quotient c.args.cache_bits (key_for c.args.op c.args.a.0 c.args.b) c.requires.low in
    Fits-below {n = 18446744073709551615} tt (omega (arith, is, less))

pub returns-clause-place : goal.returns-clause-place
returns-clause-place c = place_is c.args.cache_bits _ _ c.requires.high c.key.ensures.key

pub returns-clause-inside : goal.returns-clause-inside
returns-clause-inside c =
    rw (place_is c.args.cache_bits _ _ c.requires.high c.key.ensures.key)
    (place_inside c.args.cache_bits (key_for c.args.op c.args.a.0 c.args.b) c.requires.high)

pub returns-clause-base : goal.returns-clause-base
returns-clause-base c = base_is c.args.cache_bits _ _ c.requires.high c.key.ensures.key
