use Rattle.std.proofs.Common.{◌≡◌, ℕ, ◌*◌, ◌^◌, ◌<◌, arith}
use Rattle.std.proofs.Math.Facts.{Fits-below}
use Rattle.lattice.specs.Words.{quotient, key_for}
use Rattle.lattice.specs.declared.limits.TheConstants.{HANDLE_UNIT}
use Rattle.unique_table.specs.PassOf.{pass_state, pass_sound, bits_of}
use Rattle.unique_table.proofs.PassNeeds.{small_known}
use Rattle.computed_cache.proofs.Slots.{first_small, second_small, small_quotient}
use Rattle.computed_cache.proofs.Looking.{found_result, word_of_rest, other_of_rest}
use Rattle.computed_cache.specs.Cached.{cache_of}
use Rattle.computed_cache.proofs.pass.CachedPassStore.look.Goals as goal
use Rattle.computed_cache.proofs.pass.CachedPassStore.look.Goals.{After-slot_of-slot}

pub slot_of-slot-requires-clause-a : goal.slot_of-slot-requires-clause-a
slot_of-slot-requires-clause-a c = let p = c.args.self.now.pass in
    first_small (pass_state p) c.args.op c.args.a c.args.b (small_known p) c.requires

pub slot_of-slot-requires-clause-b : goal.slot_of-slot-requires-clause-b
slot_of-slot-requires-clause-b c = let p = c.args.self.now.pass in
    second_small (pass_state p) c.args.op c.args.a c.args.b (pass_sound p) (small_known p) c.requires

abbrev own_quotient : (c : After-slot_of-slot) → ℕ
own_quotient c = quotient (cache_of c.args.self.now) (key_for c.args.op c.args.a.0 c.args.b)

small : (c : After-slot_of-slot) → own_quotient c < 2 ^ 40
small c = rw (← c.cache_bits.ensures.is) (small_quotient c.cache_bits.result _ c.cache_bits.ensures.range.0)

base_is : (c : After-slot_of-slot) → c.slot_of-slot.result.base ≡ own_quotient c * HANDLE_UNIT
base_is c = rw (← c.cache_bits.ensures.is) c.slot_of-slot.ensures.base

pub overflow_add-found : goal.overflow_add-found
overflow_add-found c =
    let at = (goal.at.overflow_add-found c).After-slot_of-slot in let less = small at in let is = base_is at in
    Fits-below {n = 18446744073709551615} tt (omega (arith, less, is))

pub returns-clause-result : goal.returns-clause-result
returns-clause-result c =
    let p = c.args.self.now.pass in let slot = c.slot_of-slot in let w = c.cache_load-word.result in
    let at = (goal.at.returns-clause-result c).After-slot_of-slot in let near = c.if-found.false in
    let is = word_of_rest (own_quotient at) slot.result.base w (small at) (base_is at) c.cache_load-word.type_inv near in
    found_result (pass_state p) (pass_state c.cache_load-word.new.self) (bits_of p) c.args.op c.args.a c.args.b w
    (first_small (pass_state p) c.args.op c.args.a c.args.b (small_known p) c.requires)
    (second_small (pass_state p) c.args.op c.args.a c.args.b (pass_sound p) (small_known p) c.requires) (omega (arith, is))
    (omega (arith, is, near)) (rw (slot.ensures.place, c.cache_bits.ensures.is) at c.cache_load-word.ensures.word)
    c.requires _ (omega (arith, is, near))

pub returns-clause-looked : goal.returns-clause-looked
returns-clause-looked c =
    let at = (goal.at.returns-clause-looked c).After-slot_of-slot in record {
      word = c.cache_load-word.result;
      loaded = rw (← c.cache_bits.ensures.is, ← c.slot_of-slot.ensures.place) c.cache_load-word.ensures.steps;
      none = tt;
      some = word_of_rest (own_quotient at) c.slot_of-slot.result.base c.cache_load-word.result (small at) (base_is at)
          c.cache_load-word.type_inv c.if-found.false;
    }

pub returns-then-found-clause-looked : goal.returns-then-found-clause-looked
returns-then-found-clause-looked c =
    let p = c.args.self.now.pass in let at = (goal.at.returns-then-found-clause-looked c).After-slot_of-slot in record {
      word = c.cache_load-word.result;
      loaded = rw (← c.cache_bits.ensures.is, ← c.slot_of-slot.ensures.place) c.cache_load-word.ensures.steps;
      none = other_of_rest (own_quotient at) c.slot_of-slot.result.base c.cache_load-word.result (small at) (base_is at)
          (pass_state p) (pass_state c.cache_load-word.new.self) (bits_of p) c.slot_of-slot.result.place c.if-found.true
          c.cache_load-word.ensures.word;
      some = tt;
    }
