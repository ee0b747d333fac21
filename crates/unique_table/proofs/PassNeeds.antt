-- What a store over a pass needs of it.
use Rattle.std.proofs.Common.{◌≡◌, ℕ, suc, ◌+◌, ◌^◌, ◌<◌, ◌≤◌, true, is_some, arith, pow_mono}
use Rattle.lattice.specs.declared.limits.TheConstants.{HANDLE_UNIT}
use Rattle.unique_table.specs.Views.{known_by, view_state}
use Rattle.unique_table.specs.PassOf.{pass_state}
use Rattle.unique_table.specs.declared.pass.Pass.{Pass}
use Rattle.node_store.proofs.StoreLaws.{some_is}

-- a handle that a pass knows has room in a word, and so has the number after it
pub small_known : (p : Pass) (h : ℕ) → is_some ((pass_state p).known h) ≡ true → suc h < HANDLE_UNIT
unfolding pass_state view_state
small_known p h known =
    let v = p.seat.me.0 in let n : ℕ = 2 ^ v.terms.bits in let most : n ≤ 8388608 = pow_mono (p.sound).bits_high in
    let less : h < n + 2 = (p.sound).small h _ (some_is (known_by v.known h) known) in omega arith
