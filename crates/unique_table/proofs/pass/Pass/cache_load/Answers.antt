use Rattle.std.proofs.Common.{arith}
use Rattle.std.proofs.Math.Facts.{Fits-below}
use Rattle.unique_table.specs.PassOf.{pass_state, pass_steps, bits_of}
use Rattle.unique_table.proofs.Calls.{cache_index_small, looked_told}
use Rattle.unique_table.proofs.Steps.{loads}
use Rattle.unique_table.proofs.pass.Pass.cache_load.Goals as goal

pub overflow_add-at : goal.overflow_add-at
unfolding bits_of
overflow_add-at c = Fits-below {n = 16777216} tt (cache_index_small c.args.self.now c.args.place c.requires)

pub load-requires : goal.load-requires
unfolding bits_of
load-requires c = let p = c.args.self.now in
    (p.of, grind arith, loads _ _ (p.sound).live c.args.place _ (grind arith) (grind arith) _ _)

pub returns : goal.returns
unfolding pass_state pass_steps bits_of
returns c = assumption (looked_told c.args.self.now c.load.new.seat.table_id c.load.new.seat.me c.args.place _
    c.load.result c.load.ensures.0 (grind arith) c.load.ensures.2)
