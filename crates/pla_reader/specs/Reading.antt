-- What a text describes, or why it is refused.
use Rattle.std.specs.Prelude.{◌≡◌, ℕ, ◌+◌, ◌*◌, ◌^◌, Bool, ◌&&◌, List, [], ◌∷◌, ◌++◌, length, map, take, drop, codes, sum_by, Option}
use Rattle.std.specs.Prelude.{None, ok_or, unwrap_or, option_and_then, Result, Ok, Err, option_map, if◌then◌else◌}
use Rattle.std.specs.List.{filter, enumerate_from}
use Rattle.std.specs.Option.{option_map_or, option_or}
use Rattle.lattice.specs.declared.kind.Kind.{Kind}
use Rattle.lattice.specs.declared.kind.Kind.TheVariants.{Fd}
use Rattle.lattice.specs.declared.row.Row.{Row}
use Rattle.pla_reader.specs.declared.refusal.Why.TheVariants.{NoSize}
use Rattle.pla_reader.specs.declared.refusal.Refusal.{Refusal}
use Rattle.pla_reader.specs.declared.refusal.ReadRefusal.{ReadRefusal}
use Rattle.pla_reader.specs.declared.refusal.ReadRefusal.TheVariants.{Bad, Memory}
use Rattle.pla_reader.specs.declared.pla.Pla.{Pla}
use Rattle.pla_reader.specs.Description.{has_off, has_dc}
use Rattle.pla_reader.specs.Lines.{lines_of, content}
use Rattle.pla_reader.specs.Grammar.{arguments_of, sizes_given, kind_in, is_row, is_end, symbols, is_one_of, fault_of}

-- ---- rows

-- the inputs whose symbols pass a test; the last one has weight 1
unfoldable pub input_mask : (ℕ → Bool) → List ℕ → ℕ
input_mask test [] = 0
input_mask test (symbol ∷ symbols) = (if test symbol then 2 ^ length symbols else 0) + input_mask test symbols

-- the outputs whose symbols pass a test; the first one has weight 1
unfoldable pub output_mask : (ℕ → Bool) → List ℕ → ℕ
output_mask test [] = 0
output_mask test (symbol ∷ symbols) = (if test symbol then 1 else 0) + 2 * output_mask test symbols

-- the row on the line of this number: the inputs that it fixes, those that it fixes to 1, and the outputs that have its
-- cube in ON, in OFF and in DC
unfoldable pub row_of : (inputs : ℕ) → Kind → (number : ℕ) → (line : List ℕ) → Row
row_of inputs kind number line = let ins = take inputs (symbols line) in let outs = drop inputs (symbols line) in record {
  line = number;
  care = input_mask (is_one_of (codes "01")) ins;
  value = input_mask (is_one_of (codes "1")) ins;
  on = output_mask (is_one_of (codes "14")) outs;
  off = output_mask (λ symbol. has_off kind && is_one_of (codes "0") symbol) outs;
  dc = output_mask (λ symbol. has_dc kind && is_one_of (codes "-2") symbol) outs;
}

-- the rows among lines, by the numbers of their lines
unfoldable pub rows_of : (inputs : ℕ) → Kind → List (List ℕ) → List Row
rows_of inputs kind lines = map (λ p. row_of inputs kind p.0 p.1) (filter (λ p. is_row p.1) (enumerate_from 1 lines))

-- ---- the whole

-- the lines up to and with the first that ends the description
unfoldable pub up_to_end : List (List ℕ) → List (List ℕ)
up_to_end [] = []
up_to_end (line ∷ lines) = line ∷ (if is_end (content line) then [] else up_to_end lines)

-- what stands on the lines of the description
abbrev pub description_lines : List ℕ → List (List ℕ)
description_lines bytes = map content (up_to_end (lines_of bytes))

-- the first fault of lines that follow the earlier ones
unfoldable pub first_fault : (earlier lines : List (List ℕ)) → Option Refusal
first_fault earlier [] = None
first_fault earlier (line ∷ lines) =
    option_or (option_map (λ why. record { line = length earlier + 1; why = why }) (fault_of earlier line))
    (first_fault (earlier ++ line ∷ []) lines)

-- what a description says
pub record Description : Type 0 where
  pub inputs : ℕ
  pub outputs : ℕ
  pub kind : Kind
  pub rows : List Row
  pub in_names : List (List ℕ)
  pub out_names : List (List ℕ)

-- what lines without a fault say, by the numbers of inputs and outputs
unfoldable pub description_of : List (List ℕ) → (sizes : ℕ × ℕ) → Description
description_of lines sizes = let kind = unwrap_or (option_and_then kind_in (arguments_of (codes ".type") lines)) Fd in record {
  inputs = sizes.0;
  outputs = sizes.1;
  kind = kind;
  rows = rows_of sizes.0 kind lines;
  in_names = unwrap_or (arguments_of (codes ".ilb") lines) [];
  out_names = unwrap_or (arguments_of (codes ".ob") lines) [];
}

-- the description at the front of the bytes, or why it is refused: for the first fault of a line, or because a size is missing
unfoldable pub reading_of : List ℕ → Result Description Refusal
reading_of bytes = let lines = description_lines bytes in
    let said = ok_or (option_map (description_of lines) (sizes_given lines)) (record { line = length lines; why = NoSize }) in
    option_map_or Err (first_fault [] lines) said

-- how many bytes it takes: those of its lines, line feeds and all
unfoldable pub bytes_taken : List ℕ → ℕ
bytes_taken bytes = sum_by length (up_to_end (lines_of bytes))

-- ---- what is answered

-- what a file says
abbrev pub description : Pla → Description
description pla = record
    { inputs = pla.inputs; outputs = pla.outputs; kind = pla.kind; rows = pla.rows; in_names = pla.in_names; out_names = pla.out_names }

-- an answer gives what was read, unless memory ran out
abbrev pub GivesReading : Result (Pla × ℕ) ReadRefusal → Result Description Refusal → Type 0
GivesReading (Ok (pla, taken)) reading = reading ≡ Ok (description pla)
GivesReading (Err (Bad refusal)) reading = reading ≡ Err refusal
GivesReading (Err Memory) reading = Unit {0}
