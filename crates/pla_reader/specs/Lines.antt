-- The lines of a text, what stands on a line, and its words.
use Rattle.std.specs.Prelude.{ℕ, Bool, true, ◌&&◌, ◌||◌, ◌==◌, nat_lt, nat_le, List, [], ◌∷◌, length, if◌then◌else◌}
use Rattle.std.specs.List.{filter, onto_first, slice_split}
use Rattle.std.specs.Io.BufRead.{strip_last}

-- the lines, each with its line feed, which the last one may lack
abbrev pub lines_of : List ℕ → List (List ℕ)
lines_of [] = []
lines_of (byte ∷ bytes) = if byte == 10 then (byte ∷ []) ∷ lines_of bytes else onto_first byte (lines_of bytes)

-- a space or a tab
abbrev pub is_blank : ℕ → Bool
is_blank byte = byte == 32 || byte == 9

-- a tab, or printable ASCII
abbrev pub is_printable : ℕ → Bool
is_printable byte = byte == 9 || (nat_le 32 byte && nat_le byte 126)

-- the bytes before the first # that follows a blank, or that comes first if a comment may begin there
abbrev pub before_comment : (may_begin : Bool) → List ℕ → List ℕ
before_comment may_begin [] = []
before_comment may_begin (byte ∷ bytes) = if may_begin && byte == 35 then [] else byte ∷ before_comment (is_blank byte) bytes

-- what stands on a line: no line feed, no carriage return before it, and no comment
unfoldable pub content : List ℕ → List ℕ
content line = before_comment true (strip_last 13 (strip_last 10 line))

-- the parts between blanks that are not empty
unfoldable pub words_of : List ℕ → List (List ℕ)
words_of line = filter (λ word. nat_lt 0 (length word)) (slice_split is_blank line)
