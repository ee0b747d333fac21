-- The blocks of the files of a stream.
use Rattle.std.specs.Prelude.{◌≡◌, ℕ, ◌+◌, List, [], ◌∷◌, ◌++◌, codes, decimal}
use Rattle.std.specs.List.{concat}

-- the first line of a block
abbrev pub header : ℕ → ℕ → List ℕ
header number status = codes "file " ++ decimal number ++ codes " " ++ decimal status ++ codes "\n"

-- the block of the file of this number: the line with its status, and its texts
pub record IsBlock (answers : List ℕ → ℕ → List (List ℕ) → Type 0) (number : ℕ) (file text : List ℕ) : Type 0 where
  pub status : ℕ
  pub pages : List (List ℕ)
  pub answered : answers file status pages
  pub text_is : text ≡ header number status ++ concat pages

-- the blocks of these files in order, numbered from there
abbrev pub AreBlocks : (answers : List ℕ → ℕ → List (List ℕ) → Type 0) → ℕ → List (List ℕ) → List ℕ → Type 0
AreBlocks answers number [] text = text ≡ []
AreBlocks answers number (file ∷ files) text = (block : List ℕ) × (rest : List ℕ) × IsBlock answers number file block
    × AreBlocks answers (number + 1) files rest × (text ≡ block ++ rest)
