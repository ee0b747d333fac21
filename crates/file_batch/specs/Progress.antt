-- What was written of the files that the messages so far have.
use Rattle.std.specs.Prelude.{◌≡◌, ◌≤◌, ℕ, List, [], ◌∷◌, ◌++◌, Option, Result, Ok, Err, OnOk, IsErrOf}
use Rattle.std.specs.Io.KnownBytes.{Appends}
use Rattle.lattice.specs.Counts.{Rose}
use Rattle.outside.specs.Causes.{GainsFront}
use Rattle.file_stream.specs.Files.{IsPiece}
use Rattle.file_stream.specs.declared.cutter.Piece.{Piece}
use Rattle.file_relay.specs.declared.message.Message.{Message}
use Rattle.file_relay.specs.declared.message.Message.TheVariants.{File, End}
use Rattle.file_batch.specs.Blocks.{IsBlock}
use Rattle.file_batch.specs.declared.progress.Halt.{Halt}
use Rattle.file_batch.specs.declared.progress.Halt.TheVariants.{Fault, Memory}

-- the text is the block of the file of this number, whichever file the piece is of
abbrev pub IsAnswerTo : (answers : List ℕ → ℕ → List (List ℕ) → Type 0) → ℕ → Piece → List ℕ → Type 0
IsAnswerTo answers number piece text = (file : List ℕ) → IsPiece piece file → IsBlock answers number file text

-- the text is the block of the message's file; the end mark has none
abbrev pub IsToldOf : (answers : List ℕ → ℕ → List (List ℕ) → Type 0) → Message → List ℕ → Type 0
IsToldOf answers (File number piece) text = IsAnswerTo answers number piece text
IsToldOf answers End text = text ≡ []

-- the blocks of the messages' files in order
abbrev pub AreTold : (answers : List ℕ → ℕ → List (List ℕ) → Type 0) → List Message → List ℕ → Type 0
AreTold answers [] text = text ≡ []
AreTold answers (m ∷ ms) text = (block : List ℕ) × (rest : List ℕ) × IsToldOf answers m block × AreTold answers ms rest × (text ≡ block ++ rest)

-- such a text was written whole, or a front of it up to a fault, or nothing for want of memory
pub data HasWritten (is_text : List ℕ → Type 0) (old new : Option (List ℕ)) : Result (Unit {0}) Halt → Type 0 where
  whole : (text : List ℕ) → is_text text → Appends old new text → HasWritten is_text old new (Ok tt)
  part : (text : List ℕ) → is_text text → GainsFront old new text → HasWritten is_text old new (Err Fault)
  nothing : new ≡ old → HasWritten is_text old new (Err Memory)

-- what a sink gained: all blocks, or, once something stopped the writing, a front of the blocks of a front of the messages
pub data Progress (answers : List ℕ → ℕ → List (List ℕ) → Type 0) (start now : Option (List ℕ)) (got : List Message)
    : Result (Unit {0}) Halt → Type 0 where
  going : (text : List ℕ) → AreTold answers got text → Appends start now text → Progress answers start now got (Ok tt)
  stopped : (halt : Halt) (told later : List Message) (text : List ℕ) → got ≡ told ++ later → AreTold answers told text
      → GainsFront start now text → Progress answers start now got (Err halt)

-- a count of faults rose where a fault is answered, and stays where nothing is
pub record IsCaused (start now : ℕ) (written : Result (Unit {0}) Halt) : Type 0 where
  pub later : start ≤ now
  pub kept : OnOk written (now ≡ start)
  pub rose : IsErrOf written Fault → Rose start now
