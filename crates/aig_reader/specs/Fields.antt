-- What stands at the front of bytes, and the bytes behind it; or the first fault, and how many bytes are left there.
use Rattle.std.specs.Prelude.{◌≡◌, ℕ, zero, suc, ◌+◌, ◌-◌, ◌*◌, not, ◌||◌, ◌==◌, nat_lt, nat_le, List, [], ◌∷◌, length, take, drop}
use Rattle.std.specs.Prelude.{Result, Ok, Err, if◌then◌else◌}
use Rattle.std.specs.List.{position_or_len}
use Rattle.std.specs.Char.{is_ascii_digit}
use Rattle.std.specs.Str.Parse.{digits_value}
use Rattle.aig_reader.specs.declared.refusal.Why.{Why}
use Rattle.aig_reader.specs.declared.refusal.Why.TheVariants.{BadByte, BadNumber, LongNumber, Truncated, LiteralRange, GateOrder}
use Rattle.aig_reader.specs.declared.refusal.Fault.{Fault}
use Rattle.aig_reader.specs.declared.refusal.Stop.{Stop}
use Rattle.aig_reader.specs.declared.refusal.Stop.TheVariants.{Bad, Memory}
use Rattle.aig_reader.specs.declared.circuit.Gate.{Gate}
use Rattle.aig_reader.specs.declared.fields.TheConstants.{NUMBER_BOUND}

-- ---- reading on

infixl 10 ◌>>=◌
abbrev pub ◌>>=◌ : {A B : Type 0} → Result A Fault → (A → Result B Fault) → Result B Fault
(Ok x) >>= f = f x
(Err fault) >>= f = Err fault

-- a fault at the front of these bytes
abbrev pub stop : {A : Type 0} → List ℕ → Why → Result A Fault
stop bytes why = Err (record { left = length bytes; why = why })

-- what a function answered, seen by view, is what is read, unless memory ran out
abbrev pub Fails : {B : Type 0} → Stop → Result B Fault → Type 0
Fails (Bad fault) read = read ≡ Err fault
Fails Memory read = Unit {0}

abbrev pub Gives : {A B : Type 0} → (A → B) → Result A Stop → Result B Fault → Type 0
Gives view (Ok x) read = read ≡ Ok (view x)
Gives view (Err e) read = Fails e read

-- the same where a relation says what is read
abbrev pub FailsAs : {B : Type 0} → Stop → (Result B Fault → Type 0) → Type 0
FailsAs (Bad fault) IsRead = IsRead (Err fault)
FailsAs Memory IsRead = Unit {0}

abbrev pub GivesAs : {A B : Type 0} → (A → B) → Result A Stop → (Result B Fault → Type 0) → Type 0
GivesAs view (Ok x) IsRead = IsRead (Ok (view x))
GivesAs view (Err e) IsRead = FailsAs e IsRead

-- what is read behind a part that was read; else the fault of this part
abbrev pub Then : {A B : Type 0} → Result A Fault → (A → Result B Fault → Type 0) → Result B Fault → Type 0
Then (Ok x) IsRead read = IsRead x read
Then (Err fault) IsRead read = read ≡ Err fault

-- ---- fields

-- a byte that must stand there
unfoldable pub behind : (byte : ℕ) → List ℕ → Result (List ℕ) Fault
behind byte [] = stop [] Truncated
behind byte (first ∷ bytes) = if first == byte then Ok bytes else stop (first ∷ bytes) BadByte

-- how many digits stand at the front
abbrev pub count_digits : List ℕ → ℕ
count_digits bytes = position_or_len (λ byte. not (is_ascii_digit byte)) bytes

-- a number in decimal digits, below the bound
unfoldable pub number_at : List ℕ → Result (ℕ × List ℕ) Fault
number_at bytes = let value = digits_value 10 (take (count_digits bytes) bytes) in
    if length bytes == 0 then stop bytes Truncated
    else if count_digits bytes == 0 then stop bytes BadNumber
    else if nat_le NUMBER_BOUND value then stop bytes LongNumber
    else Ok (value, drop (count_digits bytes) bytes)

-- a literal of one of these variables
unfoldable pub literal_at : (variables : ℕ) → List ℕ → Result (ℕ × List ℕ) Fault
literal_at variables bytes = do
  literal ← number_at bytes
  if nat_lt (2 * variables + 1) literal.0 then stop bytes LiteralRange else Ok literal

-- one that has a line of its own
unfoldable pub output_at : (variables : ℕ) → List ℕ → Result (ℕ × List ℕ) Fault
output_at variables bytes = do
  literal ← literal_at variables bytes
  rest ← behind 10 literal.1
  Ok (literal.0, rest)

-- a difference of two literals in at most so many bytes, the low ones first: each byte has 7 bits of it, and 128 more where another
-- byte follows
unfoldable pub difference_at : (most : ℕ) → List ℕ → Result (ℕ × List ℕ) Fault
difference_at zero bytes = stop bytes LongNumber
difference_at (suc most) [] = stop [] Truncated
difference_at (suc most) (byte ∷ bytes) = if nat_lt byte 128 then Ok (byte, bytes) else (do
  high ← difference_at most bytes
  Ok (byte - 128 + 128 * high.0, high.1))

-- an operand, by the literal less the operand, which is at least so much
unfoldable pub operand_at : (least literal : ℕ) → List ℕ → Result (ℕ × List ℕ) Fault
operand_at least literal bytes = do
  difference ← difference_at 3 bytes
  if nat_lt difference.0 least || nat_lt literal difference.0 then stop bytes GateOrder else Ok (literal - difference.0, difference.1)

-- the gate of a literal: the first operand is less than the literal, and the second at most the first
unfoldable pub gate_at : (literal : ℕ) → List ℕ → Result (Gate × List ℕ) Fault
gate_at literal bytes = do
  left ← operand_at 1 literal bytes
  right ← operand_at 0 left.0 left.1
  Ok (record { left = left.0; right = right.0 }, right.1)

-- so many values, one behind the other, the first of which has this number
unfoldable pub many : {A : Type 0} → (ℕ → List ℕ → Result (A × List ℕ) Fault) → (first count : ℕ) → List ℕ → Result (List A × List ℕ) Fault
many read first zero bytes = Ok ([], bytes)
many read first (suc count) bytes = do
  value ← read first bytes
  values ← many read (first + 1) count value.1
  Ok (value.0 ∷ values.0, values.1)

-- so many steps, one behind the other, each of which changes a state
unfoldable pub through : {S : Type 0} → (ℕ → S → List ℕ → Result (S × List ℕ) Fault) → (first count : ℕ) → S → List ℕ → Result (S × List ℕ) Fault
through step first zero state bytes = Ok (state, bytes)
through step first (suc count) state bytes = do
  next ← step first state bytes
  through step (first + 1) count next.0 next.1
