use Rattle.std.proofs.Common.{◌≤◌, ◌+◌, ap, is_some, arith}
use Rattle.std.proofs.Math.Facts.{Fits-below}
use Rattle.unique_table.specs.PassOf.{pass_state, pass_sound}
use Rattle.unique_table.proofs.PassNeeds.{small_known}
use Rattle.computed_cache.proofs.Slots.{first_small, second_small, word_fits}
use Rattle.computed_cache.proofs.pass.CachedPassStore.keep.Goals as goal
use Rattle.computed_cache.proofs.pass.CachedPassStore.keep.Goals.{After-slot_of-target}

pub slot_of-target-requires-clause-a : goal.slot_of-target-requires-clause-a
slot_of-target-requires-clause-a c = let p = c.args.self.now.pass in
    first_small (pass_state p) c.args.op c.args.a c.args.b (small_known p) (c.requires).operands

pub slot_of-target-requires-clause-b : goal.slot_of-target-requires-clause-b
slot_of-target-requires-clause-b c = let p = c.args.self.now.pass in
    second_small (pass_state p) c.args.op c.args.a c.args.b (pass_sound p) (small_known p) (c.requires).operands

small : (c : After-slot_of-target) → c.slot_of-target.result.base + c.args.r.0 + 1 ≤ 18446744073709551615
small c = word_fits c.cache_bits.result _ c.slot_of-target.result.base c.args.r.0 c.cache_bits.ensures.range.0
    c.slot_of-target.ensures.base (small_known c.args.self.now.pass c.args.r.0 (ap is_some (c.requires).denotes))

pub overflow_add-word : goal.overflow_add-word
overflow_add-word c =
    let fits = small (goal.at.overflow_add-word c).After-slot_of-target in let r = c.from.ensures in
    Fits-below {n = 18446744073709551615} tt (omega arith)

pub overflow_add-word-2 : goal.overflow_add-word-2
overflow_add-word-2 c =
    let fits = small (goal.at.overflow_add-word-2 c).After-slot_of-target in let r = c.from.ensures in
    Fits-below {n = 18446744073709551615} tt (omega arith)
