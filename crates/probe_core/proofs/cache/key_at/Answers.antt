use Rattle.std.proofs.Common.{◌-◌, ◌*◌, ◌%◌, ◌^◌, arith}
use Rattle.std.proofs.Math.Facts.{Fits-below}
use Rattle.probe_core.proofs.KeptWords.{place_part, shifted, found_key}
use Rattle.probe_core.proofs.cache.key_at.Goals as goal

pub overflow_add-mixed : goal.overflow_add-mixed
overflow_add-mixed c =
    let part = place_part c.args.bits c.args.at c.requires.bits c.requires.at in
    let is = shifted c.args.bits c.cache_bits-rest.result c.args.at c.from.result c.requires.bits c.requires.at
    c.cache_bits-rest.ensures c.from.ensures in
    let word = c.ranges.word in Fits-below {n = 9007199254740992} tt (omega (arith, part, is, word.fits))

pub returns : goal.returns
returns c = found_key c.args.bits c.args.at c.args.word (c.from.result * 2 ^ (52 - c.cache_bits-rest.result) % 18446744073709551616)
    (shifted c.args.bits c.cache_bits-rest.result c.args.at c.from.result c.requires.bits c.requires.at
    c.cache_bits-rest.ensures c.from.ensures)
