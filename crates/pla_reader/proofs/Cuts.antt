-- Where a line is cut: at its line feed, its comment, its first word.
use Rattle.std.proofs.Common.{◌≡◌, ℕ, suc, ◌+◌, ◌<◌, ◌≤◌, eqb, List, [], ◌∷◌, length, take, drop, refl}
use Rattle.std.proofs.Common.{arith, inl, inr}
use Rattle.std.specs.List.{position_or_len}
use Rattle.std.proofs.lemmas.Bool.{cases_Bool}
use Rattle.std.proofs.lemmas.Grind.{common_steps}
use Rattle.pla_reader.specs.Lines.{lines_of}

-- ---- the first line

-- the place of the first line feed, or the length
abbrev pub feed_at : List ℕ → ℕ
feed_at bytes = position_or_len (λ b. eqb b 10) bytes

-- a line with its line feed is cut off
pub line_cut : (bytes : List ℕ) → feed_at bytes < length bytes
    → lines_of bytes ≡ take (feed_at bytes + 1) bytes ∷ lines_of (drop (feed_at bytes + 1) bytes)
line_cut [] lt = absurd (omega arith)
line_cut (b ∷ bs) lt = elim (cases_Bool (eqb b 10)) [
  | inl e ↦ rw e refl
  | inr e ↦
      let shorter : 1 + feed_at bs < suc (length bs) = rw e at lt in let later = line_cut bs (omega arith) in
      let more : 1 + feed_at bs + 1 ≡ suc (feed_at bs + 1) = omega arith in rw e (rw (more, later) refl)
]

-- a text without a line feed is one line
pub last_line : (bytes : List ℕ) → 0 < length bytes → length bytes ≤ feed_at bytes → lines_of bytes ≡ bytes ∷ []
last_line [] some le = absurd (omega arith)
last_line (b ∷ []) some le = grind (arith, cases_Bool, eqb)
last_line (b ∷ c ∷ bs) some le = elim (cases_Bool (eqb b 10)) [
  | inl e ↦ let wrong : suc (length (c ∷ bs)) ≤ 0 = rw e at le in absurd (omega arith)
  | inr e ↦
      let longer : suc (length (c ∷ bs)) ≤ 1 + feed_at (c ∷ bs) = rw e at le in
      rw e (rw (last_line (c ∷ bs) (omega arith) (omega arith)) refl)
]

-- For `split_line`.
pub ruleset line_steps = (common_steps, line_cut, last_line)
