-- What a line of a description may be, and what is wrong with one. A line here is what stands on it. What the lines before
-- it gave is asked of the list of them; none of them has a fault.
use Rattle.std.specs.Prelude.{ℕ, ◌+◌, Bool, false, not, ◌&&◌, ◌||◌, ◌==◌, nat_lt, nat_le, List, [], ◌∷◌, length, take, drop, codes, Option}
use Rattle.std.specs.Prelude.{Some, None, is_some, is_none, map, option_and_then, slice_get, slice_index, if◌then◌else◌}
use Rattle.std.specs.List.{filter, find, list_all, list_any}
use Rattle.std.specs.Option.{option_map, option_map_or, option_zip}
use Rattle.std.specs.Char.{is_ascii_digit}
use Rattle.std.specs.Str.{bytes_eq}
use Rattle.std.specs.Str.Parse.{digits_value}
use Rattle.lattice.specs.declared.kind.Kind.{Kind}
use Rattle.lattice.specs.declared.kind.Kind.TheVariants.{F, Fd, Fr, Fdr}
use Rattle.pla_reader.specs.declared.refusal.Why.{Why}
use Rattle.pla_reader.specs.declared.refusal.Why.TheVariants.{BadByte, BadNumber, SizeRange, Twice, TypeLate, BadType, NamesEarly}
use Rattle.pla_reader.specs.declared.refusal.Why.TheVariants.{NameCount, RowBeforeSize, RowLength, BadSymbol, TooManyRows, Unsupported}
use Rattle.pla_reader.specs.Lines.{is_blank, is_printable, words_of}
use Rattle.lattice.specs.declared.limits.TheConstants.{MAX_VARS}

-- ---- tables

-- what a table has for a name, or else the other value
abbrev pub entry_for : {A : Type 0} → A → List (List ℕ × A) → List ℕ → A
entry_for other table name = option_map_or (λ entry. entry.1) (find (λ entry. bytes_eq name entry.0) table) other

unfoldable pub kind_named : List ℕ → Option Kind
kind_named = entry_for None ((codes "f", Some F) ∷ (codes "fd", Some Fd) ∷ (codes "fr", Some Fr) ∷ (codes "fdr", Some Fdr) ∷ [])

-- whether the first word of a line is a command: it begins with a full stop
abbrev pub begins_command : List ℕ → Bool
begins_command word = slice_index word 0 == 46

-- ---- what lines gave

-- the arguments of a command, where a line begins with it: those of the first such line
unfoldable pub arguments_of : (command : List ℕ) → List (List ℕ) → Option (List (List ℕ))
arguments_of command lines =
    option_map (drop 1) (find (λ words. list_any (λ word. bytes_eq word command) (take 1 words)) (map words_of lines))

abbrev pub is_given : (command : List ℕ) → List (List ℕ) → Bool
is_given command lines = is_some (arguments_of command lines)

-- the one argument
abbrev pub only : List (List ℕ) → Option (List ℕ)
only (word ∷ []) = Some word
only words = None

-- what a size's and a type's arguments say
abbrev pub number_in : List (List ℕ) → Option ℕ
number_in arguments = option_and_then (λ word. if list_all is_ascii_digit word then Some (digits_value 10 word) else None) (only arguments)

abbrev pub kind_in : List (List ℕ) → Option Kind
kind_in arguments = option_and_then kind_named (only arguments)

-- the numbers of inputs and outputs, where both are given
abbrev pub sizes_given : List (List ℕ) → Option (ℕ × ℕ)
sizes_given lines =
    option_zip (option_and_then number_in (arguments_of (codes ".i") lines)) (option_and_then number_in (arguments_of (codes ".o") lines))

-- a line is a row where it has a first word that is no command
abbrev pub is_row : List ℕ → Bool
is_row line = list_any (λ word. not (begins_command word)) (take 1 (words_of line))

-- whether a line ends the description, by its first word
abbrev pub is_end : List ℕ → Bool
is_end line = list_any (λ word. bytes_eq word (codes ".e") || bytes_eq word (codes ".end")) (take 1 (words_of line))

-- ---- rows

-- all bytes of a row but blanks and bars
abbrev pub is_symbol : ℕ → Bool
is_symbol byte = not (is_blank byte) && not (byte == 124)

unfoldable pub symbols : List ℕ → List ℕ
symbols line = filter is_symbol line

abbrev pub is_one_of : List ℕ → ℕ → Bool
is_one_of bytes byte = list_any (λ b. b == byte) bytes

-- ---- faults

-- the first check that fails
abbrev pub first_failed : {W : Type 0} → List (Bool × W) → Option W
first_failed [] = None
first_failed (check ∷ checks) = if check.0 then Some check.1 else first_failed checks

-- of a size, which was given before or not
unfoldable pub size_fault : (before : Bool) → (most : ℕ) → (arguments : List (List ℕ)) → Option Why
size_fault before most arguments = first_failed (
    (before, Twice)
    ∷ (is_none (number_in arguments), BadNumber)
    ∷ (option_map_or (λ size. nat_lt size 1 || nat_lt most size) (number_in arguments) false, SizeRange) ∷ [])

-- of a type, after so many rows
unfoldable pub kind_fault : (before : Bool) → (rows : ℕ) → (arguments : List (List ℕ)) → Option Why
kind_fault before rows arguments = first_failed (
    (before, Twice)
    ∷ (nat_lt 0 rows, TypeLate)
    ∷ (option_map_or (λ word. bytes_eq word (codes "r") || bytes_eq word (codes "dr")) (only arguments) false, Unsupported)
    ∷ (is_none (kind_in arguments), BadType) ∷ [])

-- of names for so many inputs or outputs, once the sizes are given
unfoldable pub names_fault : (before : Bool) → (count : Option ℕ) → (arguments : List (List ℕ)) → Option Why
names_fault before count arguments = first_failed (
    (before, Twice)
    ∷ (is_none count, NamesEarly)
    ∷ (option_map_or (λ n. not (length arguments == n)) count false, NameCount) ∷ [])

-- of a row, after so many others
unfoldable pub row_fault : (sizes : Option (ℕ × ℕ)) → (rows : ℕ) → (line : List ℕ) → Option Why
row_fault None rows line = Some RowBeforeSize
row_fault (Some (inputs, outputs)) rows line = first_failed (
    (nat_le 8192 rows, TooManyRows)
    ∷ (not (length (symbols line) == inputs + outputs), RowLength)
    ∷ (not (list_all (is_one_of (codes "01-2")) (take inputs (symbols line))), BadSymbol)
    ∷ (not (list_all (is_one_of (codes "01-~24")) (drop inputs (symbols line))), BadSymbol) ∷ [])

-- commands that are known and not supported
abbrev pub is_unsupported : List ℕ → Bool
is_unsupported command = list_any (bytes_eq command)
    (codes ".mv" ∷ codes ".kiss" ∷ codes ".pair" ∷ codes ".phase" ∷ codes ".symbolic" ∷ codes ".symbolic-output" ∷ [])

-- of a command with these arguments
unfoldable pub command_fault : List (List ℕ) → (command : List ℕ) → (arguments : List (List ℕ)) → Option Why
command_fault earlier command arguments = entry_for (if is_unsupported command then Some Unsupported else None) (
    (codes ".i", size_fault (is_given (codes ".i") earlier) MAX_VARS arguments)
    ∷ (codes ".o", size_fault (is_given (codes ".o") earlier) 64 arguments)
    ∷ (codes ".type", kind_fault (is_given (codes ".type") earlier) (length (filter is_row earlier)) arguments)
    ∷ (codes ".ilb", names_fault (is_given (codes ".ilb") earlier) (option_map (λ s. s.0) (sizes_given earlier)) arguments)
    ∷ (codes ".ob", names_fault (is_given (codes ".ob") earlier) (option_map (λ s. s.1) (sizes_given earlier)) arguments) ∷ []) command

-- what is wrong with a line that follows the earlier ones: with a byte, with the row, or with the command, if there is a word
unfoldable pub fault_of : List (List ℕ) → List ℕ → Option Why
fault_of earlier line =
    if not (list_all is_printable line) then Some BadByte
    else if is_row line then row_fault (sizes_given earlier) (length (filter is_row earlier)) line
    else option_and_then (λ word. command_fault earlier word (drop 1 (words_of line))) (slice_get (words_of line) 0)
