-- A pass with its table's kept results, as a store.
use Rattle.std.specs.Prelude.{ℕ}
use Rattle.lattice.specs.NodeWords.{cache_bits}
use Rattle.node_store.specs.Stores.{State, IsSound}
use Rattle.unique_table.specs.Views.{Steps}
use Rattle.unique_table.specs.PassOf.{pass_state, pass_steps, pass_sound, bits_of}
use Rattle.computed_cache.specs.declared.pass.CachedPass.{CachedPass}

abbrev pub cached_state : CachedPass → State
cached_state p = pass_state p.pass

-- what it did that its history does not tell
abbrev pub cached_steps : CachedPass → Steps
cached_steps p = pass_steps p.pass

-- its cache has 2 to so many words
abbrev pub cache_of : CachedPass → ℕ
cache_of p = cache_bits (bits_of p.pass)

pub cached_sound : (p : CachedPass) → IsSound (cached_state p)
cached_sound p = pass_sound p.pass
