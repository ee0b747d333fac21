-- A pass on its way along the path of a word.
use Rattle.std.specs.Prelude.{◌≡◌, ℕ, ◌^◌, ◌<◌, ◌≤◌, List, [], ◌∷◌, ◌++◌, length}
use Rattle.lattice.specs.declared.entry.Entry.{Entry}
use Rattle.lattice.specs.declared.entry.Entry.TheVariants.{Full}
use Rattle.unique_table.specs.Told.{Goes, HasNoRoom, PassesBy}
use Rattle.unique_table.specs.Rule.{IsNew}
use Rattle.unique_table.specs.PassOf.{AreOfOne}
use Rattle.unique_table.specs.declared.pass.Pass.{Pass}

-- what holds after the places before the d-th were passed
pub record Walked (p : Pass) (w d : ℕ) (q : Pass) : Type 0 where
  pub same : AreOfOne p q
  pub within : d ≤ 2 ^ p.bits
  pub before : List Entry
  pub count : length before ≡ d
  pub others : PassesBy p.bits w 0 before
  pub goes : d < 2 ^ p.bits → Goes p.seat.me.0 before q.seat.me.0
  pub full : d ≡ 2 ^ p.bits → Goes p.seat.me.0 (before ++ Full w ∷ []) q.seat.me.0 × HasNoRoom p.seat.me.0 w
  pub fresh : IsNew p.seat.me.0 → IsNew q.seat.me.0 × (d ≡ 0)
