-- What was written of the bytes that one thread read.
use Rattle.std.specs.Prelude.{◌≡◌, ℕ, List, length, Option, Result}
use Rattle.file_stream.specs.Cutters.{IsAt}
use Rattle.file_stream.specs.Files.{files_of, IsCut}
use Rattle.file_relay.specs.Messages.{HaveFiles}
use Rattle.file_relay.specs.declared.message.Message.{Message}
use Rattle.file_batch.specs.Progress.{Progress}
use Rattle.file_batch.specs.declared.alone.Reading.{Reading}
use Rattle.file_batch.specs.declared.progress.Halt.{Halt}

-- these bytes were read, and the blocks of the files that ended in them were written, as far as nothing stopped that
pub record IsAnswered (answers : List ℕ → ℕ → List (List ℕ)
    → Type 0) (start now : Option (List ℕ)) (reading : Reading) (read : List ℕ) : Type 0 where
  pub told : List Message
  pub done : List (List ℕ)
  pub rest : List ℕ
  pub at : IsAt reading.cutter rest
  pub cut : IsCut read done rest
  pub files : HaveFiles 1 told done
  pub count : reading.number ≡ length done
  pub progress : Progress answers start now told reading.written

-- of the bytes that were read some files were answered so
pub record ArePartlyAnswered (answers : List ℕ → ℕ → List (List ℕ) → Type 0) (start now : Option (List ℕ)) (read : List ℕ) : Type 0 where
  pub told : List Message
  pub done : List (List ℕ)
  pub rest : List ℕ
  pub written : Result (Unit {0}) Halt
  pub cut : IsCut read done rest
  pub files : HaveFiles 1 told done
  pub progress : Progress answers start now told written

-- all files of these bytes were
pub record AllAnswered (answers : List ℕ → ℕ → List (List ℕ)
    → Type 0) (start now : Option (List ℕ)) (read : List ℕ) (written : Result (Unit {0}) Halt) : Type 0 where
  pub told : List Message
  pub files : HaveFiles 1 told (files_of read)
  pub progress : Progress answers start now told written
