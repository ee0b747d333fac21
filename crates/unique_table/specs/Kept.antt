-- Kept results, as a store shows them.
use Rattle.std.specs.Prelude.{◌≡◌, ◌<◌, ℕ, suc, true, is_some}
use Rattle.lattice.specs.NodeWords.{cache_bits, cache_place, cache_word}
use Rattle.lattice.specs.CacheWords.{key_for}
use Rattle.lattice.specs.Operations.{takes_family}
use Rattle.lattice.specs.declared.limits.TheConstants.{HANDLE_UNIT}
use Rattle.lattice.specs.declared.op.Op.{Op}
use Rattle.node_store.specs.Stores.{State, Knows, IsResult}
use Rattle.node_store.specs.declared.store.Handle.{Handle}

-- the word stands at its key's place in the cache of a table of 2 ^ bits slots, and is that of the key with this result
pub record IsWordOf (bits : ℕ) (op : Op) (a : Handle) (b : ℕ) (r : Handle) (place w : ℕ) : Type 0 where
  pub there : cache_place (cache_bits bits) (key_for op a.0 b) ≡ place
  pub word : w ≡ cache_word (cache_bits bits) (key_for op a.0 b) r.0

-- the word is that of a result, as the store shows it
pub record IsShown (s : State) (bits place w : ℕ) : Type 0 where
  pub op : Op
  pub a : Handle
  pub b : ℕ
  pub r : Handle
  pub word : IsWordOf bits op a b r place w
  pub result : IsResult s op a b r

-- the word is that of some key's result, and t knows the result where s knew the handles of the key
pub record IsKept (s t : State) (bits place w : ℕ) : Type 0 where
  pub op : Op
  pub a : Handle
  pub b : ℕ
  pub r : Handle
  pub a_fits : a.0 < HANDLE_UNIT
  pub b_fits : b < HANDLE_UNIT
  pub r_fits : suc r.0 < HANDLE_UNIT
  pub word : IsWordOf bits op a b r place w
  pub result : Knows s a → (takes_family op ≡ true → is_some (s.known b) ≡ true) → IsResult t op a b r
