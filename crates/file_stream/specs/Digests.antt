-- A short line that stands for a longer one.
use Rattle.std.specs.Prelude.{◌≡◌, ℕ, Bool, true, false, ◌||◌, ◌==◌, List, [], ◌∷◌, ◌++◌, length, if◌then◌else◌}
use Rattle.pla_reader.specs.Lines.{is_blank}
use Rattle.file_stream.specs.Files.{closes, says}

-- whatever follows, both end a file, or neither does; and something stands on both, or on neither
pub record Stands (short line : List ℕ) : Type 0 where
  pub closes_too : (rest : List ℕ) → closes (short ++ rest) ≡ closes (line ++ rest)
  pub says_too : (rest : List ℕ) → says (short ++ rest) ≡ says (line ++ rest)

abbrev pub ends_blank : List ℕ → Bool
ends_blank [] = false
ends_blank (byte ∷ []) = is_blank byte
ends_blank (byte ∷ next ∷ bytes) = ends_blank (next ∷ bytes)

abbrev pub begins_comment : List ℕ → Bool
begins_comment [] = false
begins_comment (byte ∷ bytes) = byte == 35

-- nothing that follows the short line changes what is asked of it
abbrev pub is_settled : List ℕ → Bool
is_settled short = length short == 7 || begins_comment short || ends_blank short

-- what is kept of a line after one more byte
abbrev pub after_byte : List ℕ → ℕ → List ℕ
after_byte [] byte = if is_blank byte then [] else byte ∷ []
after_byte (b ∷ bs) byte = if is_settled (b ∷ bs) then b ∷ bs else (b ∷ bs) ++ byte ∷ []

-- none of the bytes is a blank
abbrev pub is_solid : List ℕ → Bool
is_solid [] = true
is_solid (byte ∷ bytes) = if is_blank byte then false else is_solid bytes

-- the lines that are kept: none of their bytes is a blank but the last one, and one that ends in a blank begins with a word
pub data IsShort : List ℕ → Type 0 where
  empty : IsShort []
  solid : (b : ℕ) (w : List ℕ) → is_solid (b ∷ w) ≡ true → IsShort (b ∷ w)
  ended : (b : ℕ) (w : List ℕ) (c : ℕ) → is_solid (b ∷ w) ≡ true → (b == 35) ≡ false → is_blank c ≡ true → IsShort (b ∷ (w ++ c ∷ []))

-- the words of a line that has one word at most, which is empty where there is none
abbrev pub at_most_one : List ℕ → List (List ℕ)
at_most_one [] = []
at_most_one (byte ∷ bytes) = (byte ∷ bytes) ∷ []
