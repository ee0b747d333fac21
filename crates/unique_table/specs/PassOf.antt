-- A pass as a store.
use Rattle.std.specs.Prelude.{◌≡◌, ℕ}
use Rattle.node_store.specs.Stores.{State, IsSound}
use Rattle.unique_table.specs.Views.{Steps, name_of, steps_of, view_state}
use Rattle.unique_table.specs.declared.pass.Pass.{Pass}

unfoldable pub pass_state : Pass → State
pass_state p = view_state (name_of p.seat.table_id) p.seat.me.0

-- what the pass did that its history does not tell
unfoldable pub pass_steps : Pass → Steps
pass_steps p = steps_of p.seat.me.0

-- the table of the pass has 2 to so many slots
unfoldable pub bits_of : Pass → ℕ
bits_of p = p.bits

pub pass_sound : (p : Pass) → IsSound (pass_state p)
unfolding pass_state
pass_sound p = p.sound.store (name_of p.seat.table_id)

-- both passes are of one table
pub record AreOfOne (p q : Pass) : Type 0 where
  pub id : q.seat.table_id ≡ p.seat.table_id
  pub bits : q.bits ≡ p.bits
  pub vars : q.vars ≡ p.vars
  pub steps : steps_of q.seat.me.0 ≡ steps_of p.seat.me.0
