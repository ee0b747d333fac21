-- What contracts see of the shares of job workers.
use Rattle.std.specs.Prelude.{ℕ, List, [], ◌∷◌, ◌++◌}

-- the lists, the first of them with these numbers more
abbrev pub with_first : List ℕ → List (List ℕ) → List (List ℕ)
with_first more [] = []
with_first more (first ∷ lists) = (first ++ more) ∷ lists
