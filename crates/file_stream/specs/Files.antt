-- The files of a stream: its pieces, each up to and with a line that ends a description; and what lies behind the last such line,
-- where it has a line on which something stands.
use Rattle.std.specs.Prelude.{◌≡◌, ℕ, Bool, ◌≤◌, ◌<◌, nat_lt, List, [], ◌∷◌, ◌++◌, length, if◌then◌else◌}
use Rattle.std.specs.List.{concat, list_any}
use Rattle.pla_reader.specs.Lines.{lines_of, content, words_of}
use Rattle.pla_reader.specs.Grammar.{is_end}
use Rattle.pla_reader.specs.declared.reading.TheConstants.{MOST_BYTES}
use Rattle.file_stream.specs.declared.cutter.Piece.{Piece}
use Rattle.file_stream.specs.declared.cutter.Piece.TheVariants.{Kept, Long}

-- whether a line ends a file, by its first word
abbrev pub closes : List ℕ → Bool
closes line = is_end (content line)

-- whether something stands on a line besides a comment
abbrev pub says : List ℕ → Bool
says line = nat_lt 0 (length (words_of (content line)))

-- the files of these lines, of which the front ones are those since the last line that ended a file
abbrev pub files_from : (front lines : List (List ℕ)) → List (List ℕ)
files_from front [] = if list_any says front then concat front ∷ [] else []
files_from front (line ∷ lines) = if closes line then concat (front ++ line ∷ []) ∷ files_from [] lines
    else files_from (front ++ line ∷ []) lines

-- the files of a stream
abbrev pub files_of : List ℕ → List (List ℕ)
files_of bytes = files_from [] (lines_of bytes)

-- a file as it is kept: with its bytes, or, where they are too many, without them
abbrev pub IsPiece : Piece → List ℕ → Type 0
IsPiece (Kept bytes) file = (bytes ≡ file) × (length file ≤ MOST_BYTES)
IsPiece Long file = MOST_BYTES < length file

-- the file that comes first in each stream that begins with these bytes
abbrev pub IsFirstFile : List ℕ → Type 0
IsFirstFile file = (more : List ℕ) → files_of (file ++ more) ≡ file ∷ files_of more

-- of the bytes that were read these files are done, and these bytes are left, whatever follows
abbrev pub IsCut : (read : List ℕ) (done : List (List ℕ)) (rest : List ℕ) → Type 0
IsCut read done rest = (more : List ℕ) → files_of (read ++ more) ≡ done ++ files_of (rest ++ more)
