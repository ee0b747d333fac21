-- Where the words of a line begin and end.
use Rattle.std.proofs.Common.{◌≡◌, ℕ, suc, ◌+◌, ◌<◌, ◌≤◌, true, not, ltb, List, [], ◌∷◌, length, take, drop, get_or, refl, sym, ap}
use Rattle.std.proofs.Common.{◌∙◌, arith, inl, inr}
use Rattle.std.specs.List.{filter, position_or_len, slice_split}
use Rattle.std.proofs.lemmas.Bool.{cases_Bool}
use Rattle.std.proofs.lemmas.List.{length-take, length-drop, get_or-take, nil_from_length}
use Rattle.std.proofs.lemmas.List.Sums.{prefix_len-le-length, passes_at_first}
use Rattle.pla_reader.specs.Lines.{is_blank, words_of}
use Rattle.pla_reader.specs.Parts.{BeginsWithWord, from_first_word}
use Rattle.std.proofs.Math.Seq.{drop-cons}
use Rattle.std.proofs.lemmas.Bool.Decides.{nat_tests}

abbrev word_at : List ℕ → ℕ
word_at line = position_or_len (λ b. not (is_blank b)) line

abbrev pub blank_at : List ℕ → ℕ
blank_at line = position_or_len is_blank line

blank_at-le : (line : List ℕ) → blank_at line ≤ length line
blank_at-le line = prefix_len-le-length (λ b. not (is_blank b)) line

-- blanks before the first word say nothing
words_of-blank : (b : ℕ) (line : List ℕ) → is_blank b ≡ true → words_of (b ∷ line) ≡ words_of line
unfolding words_of
words_of-blank b line e = rw e refl

words_from : (line : List ℕ) → words_of (from_first_word line) ≡ words_of line
words_from [] = refl
words_from (b ∷ line) = elim (cases_Bool (is_blank b)) [
  | inl e ↦
      let one : 1 + word_at line ≡ suc (word_at line) = omega arith in
      rw (words_of-blank b line e) (rw (e, one) (words_from line))
  | inr e ↦ rw e refl
]

pub no_words : (line : List ℕ) → length (from_first_word line) < 1 → words_of line ≡ []
unfolding words_of
no_words line few = sym (words_from line) ∙ rw (nil_from_length (from_first_word line) (omega arith)) refl

-- the byte there is no blank
word_begins : (line : List ℕ) → 0 < length (from_first_word line) → 0 < blank_at (from_first_word line)
word_begins line lt = grind (arith, length-drop, passes_at_first (λ b. not (is_blank b)) line 0, drop-cons line (word_at line) 0)

-- the first of the parts between blanks, and the words of what follows it
record Parts (line : List ℕ) : Type 0 where
  tail : List (List ℕ)
  parts : slice_split is_blank line ≡ take (blank_at line) line ∷ tail
  rest : filter (λ word. ltb 0 (length word)) tail ≡ words_of (drop (blank_at line) line)

parts_of : (line : List ℕ) → Parts line
unfolding words_of
parts_of [] = record { tail = []; parts = refl; rest = refl }
parts_of (b ∷ line) = elim (cases_Bool (is_blank b)) [
  | inl e ↦ record { tail = slice_split is_blank line; parts = rw e refl; rest = rw e (rw e refl) }
  | inr e ↦
      let one : 1 + blank_at line ≡ suc (blank_at line) = omega arith in let p = parts_of line in
      record { tail = p.tail; parts = rw (e, one, p.parts) refl; rest = rw (e, one) p.rest }
]

begins : (line : List ℕ) → 0 < blank_at line → words_of line ≡ take (blank_at line) line ∷ words_of (drop (blank_at line) line)
unfolding words_of
begins line some =
    let p = parts_of line in let at = blank_at-le line in let long = length-take (blank_at line) line in
    grind (arith, p.parts, p.rest, nat_tests)

-- what a line with a word is cut into
module _ (line words : List ℕ) (from : words ≡ from_first_word line) (some : 0 < length words) where
  not_blank : 0 < blank_at words
  not_blank = rw from (word_begins line (rw from at some))

  pub word_cut : BeginsWithWord line (take (blank_at words) words) (drop (blank_at words) words)
  word_cut =
      let is = ap words_of from ∙ words_from line in let cut = begins words not_blank in let at = blank_at-le words in
      let first = not_blank in let less = ap length from in grind (arith, length-take, length-drop)

  -- the word begins with the byte at which it was found
  pub first_byte : get_or (take (blank_at words) words) 0 0 ≡ get_or words 0 0
  first_byte = get_or-take (blank_at words) words 0 0 not_blank
