-- Where a cutter stands in a file.
use Rattle.std.specs.Prelude.{◌≡◌, ◌≤◌, ◌<◌, ℕ, Bool, true, false, ◌==◌, List, [], ◌∷◌, ◌++◌, length, if◌then◌else◌}
use Rattle.std.specs.List.{concat, list_any}
use Rattle.pla_reader.specs.Lines.{lines_of}
use Rattle.file_stream.specs.Files.{files_from, files_of, says}
use Rattle.file_stream.specs.Digests.{IsShort, Stands}
use Rattle.pla_reader.specs.declared.reading.TheConstants.{MOST_BYTES}
use Rattle.file_stream.specs.declared.cutter.Cutter.{Cutter}

-- no line feed is among the bytes
abbrev pub has_no_feed : List ℕ → Bool
has_no_feed [] = true
has_no_feed (byte ∷ bytes) = if byte == 10 then false else has_no_feed bytes

-- the bytes are these whole lines and then a part of a line, and none of the lines ended a file, whatever follows
pub record IsBegun (file : List ℕ) (front : List (List ℕ)) (line : List ℕ) : Type 0 where
  pub files : (rest : List ℕ) → files_of (file ++ rest) ≡ files_from front (lines_of (line ++ rest))
  pub unfed : has_no_feed line ≡ true
  pub bytes : concat front ++ line ≡ file

-- the bytes are kept, unless they are too many
abbrev pub Keeps : Bool → List ℕ → List ℕ → Type 0
Keeps false kept file = (kept ≡ file) × (length file ≤ MOST_BYTES)
Keeps true kept file = MOST_BYTES < length file

-- these bytes were fed since the last file ended: whole lines, and then a part of a line for which the digest stands; and of them the
-- cutter has what it needs to give the file once it ends
pub record IsAt (c : Cutter) (file : List ℕ) : Type 0 where
  pub front : List (List ℕ)
  pub line : List ℕ
  pub begun : IsBegun file front line
  pub short : IsShort c.digest
  pub stands : Stands c.digest line
  pub said : c.said ≡ list_any says front
  pub kept : Keeps c.long c.file.items file
