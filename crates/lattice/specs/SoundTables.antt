-- A sound table: what holds, between any two steps, of a table on which many work, and of what one of them knows and met.
use Rattle.std.specs.Prelude.{◌≡◌, ◌^◌, ◌⊎◌, ℕ, suc, List, length, slice_index}
use Rattle.std.specs.List.{All}
use Rattle.lattice.specs.Family.{Family}
use Rattle.lattice.specs.Tables.{IsFilled, IsHandle, IsCanonical, DenotesIn}
use Rattle.lattice.specs.NodeWords.{cache_bits, key_at, result_of}
use Rattle.lattice.specs.CacheWords.{key_for, IsTrueWord}
use Rattle.lattice.specs.History.{FitsHistory, IsLegal}
use Rattle.lattice.specs.declared.entry.Entry.{Entry}

-- the handle is a constant or that of a filled slot, and denotes a family
pub record HasFamily (vars : ℕ) (ws : List ℕ) (h : ℕ) : Type 0 where
  pub is_handle : IsHandle ws h
  pub family : Family
  pub denotes : DenotesIn vars ws h family

-- the cache word, of 2 ^ c of them, is true at the place, and what a look at it tells is the key and the result that it is true of
pub record IsKeptWord (c vars : ℕ) (ws : List ℕ) (place w : ℕ) : Type 0 where
  pub is_true : IsTrueWord c vars ws place w
  pub key : key_at c place w ≡ key_for is_true.op is_true.a is_true.b
  pub result : result_of w ≡ is_true.result

-- 2 ^ bits node words are a canonical table, each filled slot has a family, and each of the cache words is vacant or true at its place
pub record IsSoundTable (bits vars : ℕ) (ws words : List ℕ) : Type 0 where
  pub canonical : IsCanonical bits vars ws
  pub slots : (i : ℕ) → IsFilled ws i → HasFamily vars ws (suc (suc i))
  pub size : length words ≡ 2 ^ cache_bits bits
  pub cache : (place : ℕ) → (slice_index words place ≡ 0) ⊎ IsKeptWord (cache_bits bits) vars ws place (slice_index words place)

-- what one who works on the table met and knows is sound: the history fits the table and is legal, and each known handle has a family
pub record IsSoundOn (bits vars : ℕ) (ws : List ℕ) (met : List Entry) (handles : List ℕ) : Type 0 where
  pub fits : FitsHistory (2 ^ bits) ws met
  pub legal : IsLegal (2 ^ bits) met
  pub known : All (HasFamily vars ws) handles
