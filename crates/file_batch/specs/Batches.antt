-- What a batch read, and what it wrote.
use Rattle.std.specs.Prelude.{◌≡◌, ◌⊎◌, ◌≤◌, ℕ, List, length, take, Option}
use Rattle.std.specs.Io.KnownBytes.{Appends, Consumes, IsAtEnd}
use Rattle.outside.specs.Causes.{GainsFront}
use Rattle.file_stream.specs.Files.{files_of, IsCut}
use Rattle.file_relay.specs.declared.reader.TheConstants.{MOST_STREAM}
use Rattle.file_batch.specs.Blocks.{AreBlocks}

-- the stream was read to its end, and the blocks of all its files were written
pub record IsWritten (answers : List ℕ → ℕ → List (List ℕ) → Type 0) (left later held now : Option (List ℕ)) : Type 0 where
  pub read : List ℕ
  pub text : List ℕ
  pub lost : Consumes left later read
  pub ended : IsAtEnd later
  pub within : length read ≤ MOST_STREAM
  pub blocks : AreBlocks answers 1 (files_of read) text
  pub gained : Appends held now text

-- these files were read whole: they are done, whatever follows, or the stream ended and they are all its files
abbrev pub AreReadWhole : (later : Option (List ℕ)) (read : List ℕ) (done : List (List ℕ)) → Type 0
AreReadWhole later read done = ((rest : List ℕ) × IsCut read done rest) ⊎ ((done ≡ files_of read) × IsAtEnd later)

-- of the first ones of the files that were read whole a front of the blocks was written
pub record IsWrittenPart (answers : List ℕ → ℕ → List (List ℕ) → Type 0) (left later held now : Option (List ℕ)) : Type 0 where
  pub read : List ℕ
  pub done : List (List ℕ)
  pub count : ℕ
  pub text : List ℕ
  pub lost : Consumes left later read
  pub files : AreReadWhole later read done
  pub blocks : AreBlocks answers 1 (take count done) text
  pub gained : GainsFront held now text
