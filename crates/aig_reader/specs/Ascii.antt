-- The lines of the ASCII form. A table says by which number the circuit has a variable of the file: number 0 is that of variable 0,
-- and of the variables that no line defines.
use Rattle.std.specs.Prelude.{ℕ, ◌+◌, ◌*◌, ◌/◌, ◌%◌, ◌-◌, not, ◌&&◌, ◌||◌, ◌==◌, ◌≤◌, nat_lt, nat_le, List, length, Result, Ok}
use Rattle.std.specs.Prelude.{slice_index, slice_set, if◌then◌else◌}
use Rattle.aig_reader.specs.declared.refusal.Why.TheVariants.{NoVariable, DefinedTwice, NotDefined}
use Rattle.aig_reader.specs.declared.refusal.Fault.{Fault}
use Rattle.aig_reader.specs.declared.circuit.Gate.{Gate}
use Rattle.aig_reader.specs.Fields.{◌>>=◌, stop, behind, literal_at}

-- ---- what lines define

-- the variable of an input or a gate, which gets this number
unfoldable pub variable_at : (number : ℕ) → (table : List ℕ) → List ℕ → Result (List ℕ × List ℕ) Fault
variable_at number table bytes = do
  literal ← literal_at (length table - 1) bytes
  if nat_lt literal.0 2 || literal.0 % 2 == 1 then stop bytes NoVariable
      else if not (slice_index table (literal.0 / 2) == 0) then stop bytes DefinedTwice
      else Ok (slice_set table (literal.0 / 2) number, literal.1)

-- input k, counted from 0
unfoldable pub input_line_at : (k : ℕ) → (table : List ℕ) → List ℕ → Result (List ℕ × List ℕ) Fault
input_line_at k table bytes = do
  defined ← variable_at (k + 1) table bytes
  rest ← behind 10 defined.1
  Ok (defined.0, rest)

-- gate k behind the inputs, counted from 0: its literal and those of its operands
unfoldable pub gate_line_at : (inputs k : ℕ) → (table : List ℕ) → List ℕ → Result (List ℕ × List ℕ) Fault
gate_line_at inputs k table bytes = do
  defined ← variable_at (inputs + 1 + k) table bytes
  front ← behind 32 defined.1
  left ← literal_at (length table - 1) front
  middle ← behind 32 left.1
  right ← literal_at (length table - 1) middle
  rest ← behind 10 right.1
  Ok (defined.0, rest)

-- ---- what they say by a table

-- no number in the table is greater
abbrev pub IsUpTo : (most : ℕ) → (table : List ℕ) → Type 0
IsUpTo most table = (i : ℕ) → slice_index table i ≤ most

-- the literal of the circuit that a literal of the file is
abbrev pub renamed : (table : List ℕ) → (literal : ℕ) → ℕ
renamed table literal = 2 * slice_index table (literal / 2) + literal % 2

-- a literal, renamed
unfoldable pub renamed_at : (table : List ℕ) → List ℕ → Result (ℕ × List ℕ) Fault
renamed_at table bytes = do
  literal ← literal_at (length table - 1) bytes
  if nat_le 2 literal.0 && slice_index table (literal.0 / 2) == 0 then stop bytes NotDefined
      else Ok (renamed table literal.0, literal.1)

unfoldable pub renamed_output_at : (table : List ℕ) → List ℕ → Result (ℕ × List ℕ) Fault
renamed_output_at table bytes = do
  literal ← renamed_at table bytes
  rest ← behind 10 literal.1
  Ok (literal.0, rest)

-- the gate of a line, in the variables of the circuit
unfoldable pub renamed_gate_at : (table : List ℕ) → List ℕ → Result (Gate × List ℕ) Fault
renamed_gate_at table bytes = do
  own ← literal_at (length table - 1) bytes
  front ← behind 32 own.1
  left ← renamed_at table front
  middle ← behind 32 left.1
  right ← renamed_at table middle
  rest ← behind 10 right.1
  Ok (record { left = left.0; right = right.0 }, rest)
