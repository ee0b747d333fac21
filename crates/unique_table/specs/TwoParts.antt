-- A table whose first n words are node words and whose other m are cache words.
use Rattle.std.specs.Prelude.{◌≡◌, ℕ, ◌+◌, ◌<◌, List, length, take, slice_index}

-- the node words are a table, and each cache word is true, at its place, by them
pub record IsBoth (n m : ℕ) (IsTable : List ℕ → Type 0) (IsTrue : List ℕ → ℕ → ℕ → Type 0) (ws : List ℕ) : Type 0 where
  pub size : length ws ≡ n + m
  pub nodes : IsTable (take n ws)
  pub cache : (p : ℕ) → p < m → IsTrue (take n ws) p (slice_index ws (n + p))

-- a view speaks of the node words alone
abbrev pub FitsNodes : {V : Type 0} → ℕ → (List ℕ → V → Type 0) → List ℕ → V → Type 0
FitsNodes n Fits ws v = Fits (take n ws) v
