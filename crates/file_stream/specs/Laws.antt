-- What is so of the files of any stream.
use Rattle.std.specs.Prelude.{◌≡◌, ℕ, false, List, [], ◌∷◌, ◌++◌, codes}
use Rattle.std.specs.List.{concat, list_any}
use Rattle.pla_reader.specs.Lines.{lines_of}
use Rattle.file_stream.specs.Files.{files_of, says}

-- these lines, in order, are in the files, and on those behind them nothing stands
pub record AreInFiles (files lines : List (List ℕ)) : Type 0 where
  pub within : List (List ℕ)
  pub behind : List (List ℕ)
  pub all : lines ≡ within ++ behind
  pub joined : concat files ≡ concat within
  pub silent : list_any says behind ≡ false

-- the files, one behind the other, are the front of the stream, and on the lines behind it nothing stands
abbrev pub FilesAreTheStream : Type 0
FilesAreTheStream = (bytes : List ℕ) → AreInFiles (files_of bytes) (lines_of bytes)

-- a stream of two files, of which the second has no line that ends it; a stream without one; and a line that only looks like an end
abbrev pub WorkedStreams : Type 0
WorkedStreams = (files_of (codes "1 1\n.e # end\n\n0 0") ≡ codes "1 1\n.e # end\n" ∷ codes "\n0 0" ∷ [])
    × (files_of (codes "# none\n \t\n\r\n") ≡ [])
    × (files_of (codes " .end\r\n# .e\n.ex\n") ≡ codes " .end\r\n" ∷ codes "# .e\n.ex\n" ∷ [])
