-- The source and the sink in memory, as contracts see them.
use Rattle.std.specs.Prelude.{◌==◌, ◌+◌, ℕ, Bool, List}
use Rattle.std.specs.List.{list_any}

-- the bytes that are left, the most bytes that a call gives, the numbers of the calls that fail,
-- the number of calls so far and of those that failed; both stop at 2^64 - 1
pub record SourceState : Type 0 where
  pub left : List ℕ
  pub step : ℕ
  pub fails : List ℕ
  pub calls : ℕ
  pub faults : ℕ

-- the bytes that were taken, how many there is room for, and as above
pub record SinkState : Type 0 where
  pub held : List ℕ
  pub room : ℕ
  pub step : ℕ
  pub fails : List ℕ
  pub calls : ℕ
  pub faults : ℕ

-- the next call, counted from 1, is one of those that fail
abbrev pub is_due : List ℕ → ℕ → Bool
is_due fails calls = list_any (λ number. number == calls + 1) fails
