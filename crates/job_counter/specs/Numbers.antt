-- Numbers that are dealt to workers.
use Rattle.std.specs.Prelude.{ℕ, ◌==◌, cond, ltb, List}
use Rattle.std.specs.List.{count_by}

-- how often x is among the numbers
abbrev pub times : ℕ → List ℕ → ℕ
times x numbers = count_by (λ y. y == x) numbers

-- 1 where x is below n, and 0 where it is not
abbrev pub once_below : ℕ → ℕ → ℕ
once_below x n = cond (ltb x n) 1 0
