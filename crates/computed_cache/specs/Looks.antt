-- What a look for a kept result does.
use Rattle.std.specs.Prelude.{◌≡◌, ◌≢◌, ◌/◌, ◌⊎◌, ℕ, Option, IfSome, IfNone}
use Rattle.lattice.specs.NodeWords.{cache_place, quotient, cache_word}
use Rattle.lattice.specs.declared.limits.TheConstants.{HANDLE_UNIT}
use Rattle.node_store.specs.declared.store.Handle.{Handle}
use Rattle.unique_table.specs.Views.{Steps, after_load}

-- the word is not one of the key's, in a cache of 2 ^ c words
abbrev pub IsOfOther : ℕ → ℕ → ℕ → Type 0
IsOfOther c key w = (w ≡ 0) ⊎ (w / HANDLE_UNIT ≢ quotient c key)

-- one word was loaded, that of the key's place: nothing was found only where it is not of the key, and else its result
pub record HasLooked (before after : Steps) (c key : ℕ) (found : Option Handle) : Type 0 where
  pub word : ℕ
  pub loaded : after ≡ after_load before (cache_place c key) word
  pub none : IfNone found (IsOfOther c key word)
  pub some : IfSome found (λ r. word ≡ cache_word c key r.0)
