use Rattle.std.proofs.Common.{arith}
use Rattle.std.proofs.Math.Facts.{Fits-below}
use Rattle.unique_table.specs.Views.{name_of}
use Rattle.unique_table.specs.PassOf.{pass_state, pass_steps, bits_of}
use Rattle.unique_table.proofs.Calls.{cache_index_small, stored_told}
use Rattle.unique_table.proofs.Steps.{stores}
use Rattle.unique_table.proofs.pass.Pass.cache_store.Goals as goal

pub overflow_add-at : goal.overflow_add-at
unfolding bits_of
overflow_add-at c = Fits-below {n = 16777216} tt (cache_index_small c.args.self.now c.args.place c.requires.place)

pub store-requires : goal.store-requires
unfolding pass_state bits_of
store-requires c = let p = c.args.self.now in (
  p.of,
  grind arith,
  stores _ _ (p.sound).live c.args.place _ (grind arith) (grind arith) _ _ _ (name_of p.seat.table_id) (grind arith),
)

pub returns : goal.returns
unfolding pass_state pass_steps bits_of
returns c = assumption (stored_told c.args.self.now c.store.new.seat.table_id c.store.new.seat.me c.args.place _
    c.args.word c.store.ensures.0 (grind arith) c.store.ensures.2)
