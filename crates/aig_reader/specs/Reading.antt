-- What a file says, or why it is refused.
use Rattle.std.specs.Prelude.{◌≡◌, ℕ, zero, suc, ◌+◌, ◌-◌, ◌*◌, ◌<◌, ◌≤◌, Bool, true, not, ◌&&◌, ◌==◌, nat_lt, nat_le, List, [], ◌∷◌, length}
use Rattle.std.specs.Prelude.{false, map, take, drop, replicate, codes, Result, Ok, Err, slice_set, if◌then◌else◌}
use Rattle.std.specs.List.{All, list_any, position_or_len, slice_index_or}
use Rattle.std.specs.Str.{bytes_eq}
use Rattle.std.specs.Char.{is_ascii_digit}
use Rattle.lattice.specs.declared.limits.TheConstants.{MAX_VARS}
use Rattle.aig_reader.specs.declared.circuit.TheConstants.{MAX_GATES, MAX_OUTPUTS, MAX_VARIABLES}
use Rattle.aig_reader.specs.declared.refusal.Why.{Why}
use Rattle.aig_reader.specs.declared.refusal.Why.TheVariants.{NoFormat, VariableCount, TooManyInputs, TooManyOutputs, TooManyGates}
use Rattle.aig_reader.specs.declared.refusal.Why.TheVariants.{Latch, Property, OnItself, BadSymbol, SymbolRange, Twice}
use Rattle.aig_reader.specs.declared.refusal.Fault.{Fault}
use Rattle.aig_reader.specs.declared.refusal.Refusal.{Refusal}
use Rattle.aig_reader.specs.declared.refusal.ReadRefusal.{ReadRefusal}
use Rattle.aig_reader.specs.declared.refusal.ReadRefusal.TheVariants.{Bad, Memory}
use Rattle.aig_reader.specs.declared.header.Sizes.{Sizes}
use Rattle.aig_reader.specs.declared.circuit.Aig.{Aig}
use Rattle.aig_reader.specs.declared.symbols.Table.{Table}
use Rattle.aig_reader.specs.Circuit.{Circuit}
use Rattle.aig_reader.specs.Fields.{◌>>=◌, stop, Then, behind, number_at, output_at, gate_at, many, through}
use Rattle.aig_reader.specs.declared.circuit.Gate.{Gate}
use Rattle.aig_reader.specs.Ascii.{input_line_at, gate_line_at, renamed_output_at, renamed_gate_at}
use Rattle.aig_reader.specs.Order.{Ordered, ArePlaced, IsFirstOnItself, IsSound, renumbered}

-- ---- the header

-- a number behind a space, at most so great
unfoldable pub size_at : (most : ℕ) → Why → List ℕ → Result (ℕ × List ℕ) Fault
size_at most why bytes = do
  front ← behind 32 bytes
  size ← number_at front
  if nat_lt most size.0 then stop front why else Ok size

-- the line feed: in version 1.9 of the format numbers of properties may stand before it
unfoldable pub header_end_at : List ℕ → Result (List ℕ) Fault
header_end_at bytes = if slice_index_or bytes 0 0 == 32 then stop bytes Property else behind 10 bytes

-- sizes within the limits
pub record AreFew (sizes : Sizes) : Type 0 where
  pub variables : sizes.variables ≤ MAX_VARIABLES
  pub inputs : sizes.inputs ≤ MAX_VARS
  pub outputs : sizes.outputs ≤ MAX_OUTPUTS
  pub gates : sizes.gates ≤ MAX_GATES

-- the sizes, and the bytes behind the header
unfoldable pub sizes_at : List ℕ → Result (Sizes × List ℕ) Fault
sizes_at bytes = do
  variables ← size_at MAX_VARIABLES VariableCount bytes
  inputs ← size_at MAX_VARS TooManyInputs variables.1
  latches ← size_at 0 Latch inputs.1
  outputs ← size_at MAX_OUTPUTS TooManyOutputs latches.1
  gates ← size_at MAX_GATES TooManyGates outputs.1
  rest ← header_end_at gates.1
  Ok (record { variables = variables.0; inputs = inputs.0; outputs = outputs.0; gates = gates.0 }, rest)

-- ---- the symbol table

-- the names of the inputs and of the outputs
pub record Names : Type 0 where
  pub inputs : List (List ℕ)
  pub outputs : List (List ℕ)

-- how many bytes stand on the line
abbrev pub line_length : List ℕ → ℕ
line_length bytes = position_or_len (λ byte. byte == 10) bytes

-- what stands behind a symbol's letter: the position of what it names, a space, the name, and the line feed
unfoldable pub name_at : (names : List (List ℕ)) → List ℕ → Result (List (List ℕ) × List ℕ) Fault
name_at names bytes = do
  position ← number_at bytes
  line ← behind 32 position.1
  rest ← behind 10 (drop (line_length line) line)
  if nat_le (length names) position.0 then stop bytes SymbolRange
      else if not (length (slice_index_or names position.0 []) == 0) then stop bytes Twice
      else if line_length line == 0 then stop line BadSymbol
      else Ok (slice_set names position.0 (take (line_length line) line), rest)

-- what is wrong with a symbol whose letter is neither i nor o
abbrev pub letter_why : ℕ → Why
letter_why letter = if letter == 108 then Latch else if list_any (λ b. b == letter) (codes "bcfj") then Property else BadSymbol

-- a symbol: of an input by i, of an output by o
unfoldable pub symbol_at : Names → List ℕ → Result (Names × List ℕ) Fault
symbol_at names [] = Ok (names, [])
symbol_at names (letter ∷ bytes) =
    if letter == 105 then (do
      named ← name_at names.inputs bytes
      Ok (record { inputs = named.0; outputs = names.outputs }, named.1))
    else if letter == 111 then (do
      named ← name_at names.outputs bytes
      Ok (record { inputs = names.inputs; outputs = named.0 }, named.1))
    else stop (letter ∷ bytes) (letter_why letter)

-- whether the symbols are over: no byte is left, or a comment begins, by c with no digit behind it
abbrev pub are_over : List ℕ → Bool
are_over [] = true
are_over (letter ∷ bytes) = letter == 99 && not (is_ascii_digit (slice_index_or bytes 0 0))

-- the symbols, each of which takes a byte or more
unfoldable pub symbols_at : (bytes_left : ℕ) → Names → List ℕ → Result Names Fault
symbols_at zero names bytes = Ok names
symbols_at (suc left) names bytes = if are_over bytes then Ok names else (do
  symbol ← symbol_at names bytes
  symbols_at left symbol.0 symbol.1)

abbrev pub no_names : Sizes → Names
no_names sizes = record { inputs = replicate sizes.inputs []; outputs = replicate sizes.outputs [] }

-- ---- the two forms, behind the word that begins the file

-- the binary one: the header, the literals of the outputs, the gates and the symbols
unfoldable pub binary_at : List ℕ → Result Circuit Fault
binary_at bytes = do
  header ← sizes_at bytes
  if not (header.0.variables == header.0.inputs + header.0.gates) then stop bytes VariableCount else (do
    outputs ← many (λ k. output_at header.0.variables) 0 header.0.outputs header.1
    gates ← many (λ k. gate_at (2 * (header.0.inputs + 1 + k))) 0 header.0.gates outputs.1
    names ← symbols_at (length gates.1) (no_names header.0) gates.1
    Ok (record { inputs = header.0.inputs; gates = gates.0; outputs = outputs.0; in_names = names.inputs; out_names = names.outputs }))

-- the ASCII one: the header, the literals of the inputs, those of the outputs, the gates and the symbols. First all lines fill a
-- table, of which the bytes from the outputs' lines on are kept
unfoldable pub table_at : Sizes → (table : List ℕ) → List ℕ → Result (List ℕ × List ℕ) Fault
table_at sizes table bytes = do
  inputs ← through input_line_at 0 sizes.inputs table bytes
  outputs ← many (λ k. output_at sizes.variables) 0 sizes.outputs inputs.1
  gates ← through (gate_line_at sizes.inputs) 0 sizes.gates inputs.0 outputs.1
  Ok (gates.0, inputs.1)

-- gates that are placed, and outputs of their lines, that make a circuit
pub record AreSound (sizes : Sizes) (outputs : List ℕ) (p : Ordered) : Type 0 where
  pub lines : List Gate
  pub sound : IsSound sizes.inputs lines p
  pub few : length p.gates ≤ MAX_GATES
  pub count : length outputs ≡ sizes.outputs
  pub literals : All (λ literal. literal < 2 * (sizes.inputs + 1 + length lines)) outputs

-- the circuit of gates that are placed, with the outputs of the lines, and the symbols
unfoldable pub ordered_at : Sizes → (outputs : List ℕ) → Ordered → List ℕ → Result Circuit Fault
ordered_at sizes outputs p bytes = do
  names ← symbols_at (length bytes) (no_names sizes) bytes
  Ok (record {
    inputs = sizes.inputs;
    gates = p.gates;
    outputs = map (renumbered sizes.inputs p) outputs;
    in_names = names.inputs;
    out_names = names.outputs;
  })

-- the fault of line k of the gates, counted from 0, which is found by going through the lines before it again
unfoldable pub on_itself_at : (table : List ℕ) → (k : ℕ) → List ℕ → Result Circuit Fault
on_itself_at table k bytes = do
  before ← many (λ j. renamed_gate_at table) 0 k bytes
  stop before.1 OnItself

-- what the gates of the lines from start on say, where the others follow: a circuit in the order in which they are placed, or the
-- fault of the first one that stands on one that stands on itself
pub data SaysInOrder (sizes : Sizes) (table outputs start : List ℕ) (gates : List Gate) (rest : List ℕ) (read : Result Circuit Fault)
    : Type 0 where
  in_order : (p : Ordered) → ArePlaced sizes.inputs gates (length gates) p → read ≡ ordered_at sizes outputs p rest
      → SaysInOrder sizes table outputs start gates rest read
  looped : (k : ℕ) → IsFirstOnItself sizes.inputs gates k → read ≡ on_itself_at table k start
      → SaysInOrder sizes table outputs start gates rest read

-- then the lines from there on are read by it
abbrev pub SaysByTable : Sizes → (table : List ℕ) → List ℕ → Result Circuit Fault → Type 0
SaysByTable sizes table bytes =
    Then (many (λ k. renamed_output_at table) 0 sizes.outputs bytes) (λ outputs.
    Then (many (λ k. renamed_gate_at table) 0 sizes.gates outputs.1) (λ gates.
    SaysInOrder sizes table outputs.0 outputs.1 gates.0 gates.1))

abbrev pub SaysAscii : List ℕ → Result Circuit Fault → Type 0
SaysAscii bytes =
    Then (sizes_at bytes) (λ header.
    Then (table_at header.0 (replicate (header.0.variables + 1) 0) header.1) (λ table. SaysByTable header.0 table.0 table.1))

-- what all bytes say, by the word that they begin with
pub data Says (bytes : List ℕ) (read : Result Circuit Fault) : Type 0 where
  binary : bytes_eq (take 3 bytes) (codes "aig") ≡ true → read ≡ binary_at (drop 3 bytes) → Says bytes read
  ascii : bytes_eq (take 3 bytes) (codes "aig") ≡ false → bytes_eq (take 3 bytes) (codes "aag") ≡ true → SaysAscii (drop 3 bytes) read → Says bytes read
  neither : bytes_eq (take 3 bytes) (codes "aig") ≡ false → bytes_eq (take 3 bytes) (codes "aag") ≡ false → read ≡ stop bytes NoFormat
      → Says bytes read

-- with the number of bytes before a fault
abbrev pub placed_in : {A : Type 0} → (bytes : List ℕ) → Result A Fault → Result A Refusal
placed_in bytes (Ok x) = Ok x
placed_in bytes (Err fault) = Err (record { byte = length bytes - fault.left; why = fault.why })

-- the circuit that a file says, or why it is refused
pub record IsReading (bytes : List ℕ) (reading : Result Circuit Refusal) : Type 0 where
  pub read : Result Circuit Fault
  pub says : Says bytes read
  pub is : reading ≡ placed_in bytes read

-- ---- what is answered

abbrev pub circuit : Aig → Circuit
circuit aig = record
    { inputs = aig.inputs; gates = aig.gates; outputs = aig.outputs; in_names = aig.in_names; out_names = aig.out_names }

-- an answer gives what was read, unless memory ran out
abbrev pub GivesReading : Result Aig ReadRefusal → (Result Circuit Refusal → Type 0) → Type 0
GivesReading (Ok aig) IsRead = IsRead (Ok (circuit aig))
GivesReading (Err (Bad refusal)) IsRead = IsRead (Err refusal)
GivesReading (Err Memory) IsRead = Unit {0}

-- the names of a table
abbrev pub names : Table → Names
names table = record { inputs = table.inputs.items; outputs = table.outputs.items }
