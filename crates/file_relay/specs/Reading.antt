-- What was read of a stream, and which of its files were sent.
use Rattle.std.specs.Prelude.{◌≡◌, ◌≤◌, ◌<◌, ℕ, List, [], ◌∷◌, ◌++◌, length, Option}
use Rattle.std.specs.Io.KnownBytes.{Consumes, IsAtEnd}
use Rattle.file_stream.specs.Files.{files_of, IsCut}
use Rattle.file_stream.specs.Cutters.{IsAt}
use Rattle.file_stream.specs.declared.cutter.Cutter.{Cutter}
use Rattle.file_relay.specs.Messages.{HaveFiles}
use Rattle.file_relay.specs.declared.message.Message.{Message}
use Rattle.file_relay.specs.declared.message.Message.TheVariants.{End}
use Rattle.file_relay.specs.declared.reader.TheConstants.{MOST_STREAM}

-- the stream was read to its end, and these are all its files
pub record IsReadWhole (old new : Option (List ℕ)) (sent : List Message) : Type 0 where
  pub read : List ℕ
  pub lost : Consumes old new read
  pub ended : IsAtEnd new
  pub within : length read ≤ MOST_STREAM
  pub files : HaveFiles 1 sent (files_of read)

-- some of the stream was read, and these are files that were read whole
pub record IsReadPart (old new : Option (List ℕ)) (sent : List Message) : Type 0 where
  pub read : List ℕ
  pub done : List (List ℕ)
  pub rest : List ℕ
  pub lost : Consumes old new read
  pub cut : IsCut read done rest
  pub files : HaveFiles 1 sent done

-- the stream was read to its end, and has no more bytes than it may have
abbrev pub IsReadThrough : Option (List ℕ) → Option (List ℕ) → Type 0
IsReadThrough old new = (read : List ℕ) × Consumes old new read × IsAtEnd new × (length read ≤ MOST_STREAM)

-- more than a stream may have was read
abbrev pub IsReadPast : Option (List ℕ) → Option (List ℕ) → Type 0
IsReadPast old new = (read : List ℕ) × Consumes old new read × (MOST_STREAM < length read)

-- what is so of the messages before the end mark
abbrev pub BeforeEnd : (List Message → Type 0) → List Message → Type 0
BeforeEnd holds messages = (sent : List Message) × (messages ≡ sent ++ End ∷ []) × holds sent

-- these bytes were fed to the cutter, and the files that they ended were sent, so many
pub record IsSent (cutter : Cutter) (number : ℕ) (read : List ℕ) (sent : List Message) : Type 0 where
  pub done : List (List ℕ)
  pub rest : List ℕ
  pub at : IsAt cutter rest
  pub cut : IsCut read done rest
  pub files : HaveFiles 1 sent done
  pub count : number ≡ length done

-- of the bytes that were read some files were sent
abbrev pub ArePartly : List ℕ → List Message → Type 0
ArePartly read sent = (done : List (List ℕ)) × (rest : List ℕ) × IsCut read done rest × HaveFiles 1 sent done
