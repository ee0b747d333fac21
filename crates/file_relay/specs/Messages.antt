-- What messages say of the files of a stream.
use Rattle.std.specs.Prelude.{◌≡◌, ℕ, ◌+◌, Bool, true, false, List, [], ◌∷◌, if◌then◌else◌}
use Rattle.file_stream.specs.Files.{IsPiece}
use Rattle.file_relay.specs.declared.message.Message.{Message}
use Rattle.file_relay.specs.declared.message.Message.TheVariants.{File, End}

-- the message has the file and its number
abbrev pub HasFile : ℕ → Message → List ℕ → Type 0
HasFile number (File n piece) file = (n ≡ number) × IsPiece piece file
HasFile number End file = ⊥

-- the messages have these files in order, numbered from there
abbrev pub HaveFiles : ℕ → List Message → List (List ℕ) → Type 0
HaveFiles number [] [] = Unit {0}
HaveFiles number [] (file ∷ files) = ⊥
HaveFiles number (m ∷ ms) [] = ⊥
HaveFiles number (m ∷ ms) (file ∷ files) = HasFile number m file × HaveFiles (number + 1) ms files

-- ---- the end mark

abbrev pub is_end : Message → Bool
is_end (File number piece) = false
is_end End = true

-- none of them is the end mark
abbrev pub has_no_end : List Message → Bool
has_no_end [] = true
has_no_end (m ∷ ms) = if is_end m then false else has_no_end ms

abbrev pub is_nil : List Message → Bool
is_nil [] = true
is_nil (m ∷ ms) = false

-- the last of them is the end mark, and no other is
abbrev pub ends_once : List Message → Bool
ends_once [] = false
ends_once (m ∷ ms) = if is_end m then is_nil ms else ends_once ms
