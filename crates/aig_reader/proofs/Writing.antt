-- What is written is read again.
use Rattle.std.proofs.Common.{◌≡◌, ℕ, zero, suc, ◌-◌, ◌+◌, ◌*◌, ◌/◌, ◌%◌, ◌≤◌, ◌<◌, true, false, not, leb, eqb}
use Rattle.std.proofs.Common.{List, [], ◌∷◌, ◌++◌, ◌==◌, length, get_or, set, replicate, take, drop, codes, inl, inr, Some, Result, Ok}
use Rattle.std.proofs.Common.{refl, sym, ap, ◌∙◌, subst, arith, append_assoc, length-append, eq-eqb}
use Rattle.std.specs.Prelude.{slice_get, decimal}
use Rattle.std.specs.List.{list_all}
use Rattle.std.specs.Char.{is_ascii_digit, digit_value}
use Rattle.std.specs.Str.Parse.{AllDigits}
use Rattle.std.proofs.lemmas.Bool.{le-ltb, lt-ltb, cases_lt, and_parts}
use Rattle.std.proofs.lemmas.Bool.Decides.{nat_tests}
use Rattle.std.proofs.lemmas.Fmt.{decimal_is_IsNumeral}
use Rattle.std.proofs.lemmas.Str.Parse.{digit_from_value}
use Rattle.std.proofs.lemmas.Option.{get_or_from_slice_get, slice_get_within}
use Rattle.std.proofs.lemmas.List.{take_at, drop_at, append-nil}
use Rattle.std.proofs.Math.Seq.{set-append_seam, get_or-append_seam}
use Rattle.aig_reader.specs.declared.circuit.Gate.{Gate}
use Rattle.aig_reader.specs.declared.fields.TheConstants.{NUMBER_BOUND}
use Rattle.aig_reader.specs.declared.refusal.Why.{Why}
use Rattle.aig_reader.specs.declared.refusal.Fault.{Fault}
use Rattle.aig_reader.specs.declared.header.Sizes.{Sizes}
use Rattle.aig_reader.specs.Circuit.{Circuit, IsCircuit}
use Rattle.aig_reader.specs.Fields.{behind, count_digits, number_at, literal_at, output_at, difference_at, operand_at, gate_at, many}
use Rattle.aig_reader.specs.declared.refusal.Why.TheVariants.{VariableCount, TooManyInputs, TooManyOutputs, TooManyGates, Latch}
use Rattle.aig_reader.specs.declared.circuit.TheConstants.{MAX_GATES, MAX_OUTPUTS, MAX_VARIABLES}
use Rattle.lattice.specs.declared.limits.TheConstants.{MAX_VARS}
use Rattle.aig_reader.specs.Reading.{AreFew, size_at, header_end_at, sizes_at, Names, no_names}
use Rattle.aig_reader.specs.Reading.{line_length, name_at, symbol_at, are_over, symbols_at}
use Rattle.aig_reader.specs.Reading.{binary_at, binary, IsReading}
use Rattle.std.specs.Str.{bytes_eq}
use Rattle.aig_reader.specs.Written.{size_text, output_text, difference_text, gate_text, symbol_text, texts, written}
use Rattle.aig_reader.specs.Laws.{are_lines}

-- ---- numbers

digit_passes : (byte : ℕ) → digit_value byte < 10 → is_ascii_digit byte ≡ true
digit_passes byte lt = let range = digit_from_value byte lt in grind (arith, nat_tests, range.0, range.1)

all_digits : (digits : List ℕ) (byte : ℕ) (rest : List ℕ) → AllDigits 10 digits → is_ascii_digit byte ≡ false
    → count_digits (digits ++ byte ∷ rest) ≡ length digits
all_digits [] byte rest all ends = rw ends refl
all_digits (d ∷ digits) byte rest all ends = rw (digit_passes d all.0) (omega (arith, all_digits digits byte rest all.1 ends))

number_again : (n byte : ℕ) (rest : List ℕ) → n < NUMBER_BOUND → is_ascii_digit byte ≡ false
    → number_at (decimal n ++ byte ∷ rest) ≡ Ok (n, byte ∷ rest)
unfolding number_at
number_again n byte rest lt ends =
    let numeral = decimal_is_IsNumeral n (omega arith) in
    let count = all_digits (decimal n) byte rest numeral.0.1 ends in
    let some : eqb (length (decimal n ++ byte ∷ rest)) 0 ≡ false = grind (arith, nat_tests, length-append (decimal n) (byte ∷ rest)) in
    let digits : eqb (length (decimal n)) 0 ≡ false = grind (arith, nat_tests, numeral.0.0) in
    let within : leb NUMBER_BOUND n ≡ false = grind (arith, nat_tests) in
    rw (
      some,
      count,
      digits,
      take_at (decimal n) (byte ∷ rest) (length (decimal n)) refl,
      drop_at (decimal n) (byte ∷ rest) (length (decimal n)) refl,
      numeral.1,
      within,
    ) refl

-- ---- differences and gates

abbrev limit : ℕ → ℕ
limit zero = 128
limit (suc m) = 128 * limit m

difference_again : (m n : ℕ) (rest : List ℕ) → n < limit m → difference_at (suc m) (difference_text (suc m) n ++ rest) ≡ Ok (n, rest)
unfolding difference_at difference_text
difference_again zero n rest lt = let small = lt-ltb n 128 lt in rw (small, small) refl
difference_again (suc m) n rest lt = elim (cases_lt n 128) [
  | inl less ↦ let small = lt-ltb n 128 less in rw (small, small) refl
  | inr more ↦
      let great = le-ltb n 128 more in let high = le-ltb (n % 128 + 128) 128 (omega arith) in
      let others = difference_again m (n / 128) rest (omega arith) in
      let value : n % 128 + 128 - 128 + 128 * (n / 128) ≡ n = omega arith in rw (great, high, others, value) refl
]

operand_again : (least literal operand : ℕ) (rest : List ℕ) → operand + least ≤ literal → literal < limit 2
    → operand_at least literal (difference_text 3 (literal - operand) ++ rest) ≡ Ok (operand, rest)
unfolding operand_at
operand_again least literal operand rest le lt =
    let low = le-ltb (literal - operand) least (omega arith) in let high = le-ltb literal (literal - operand) (omega arith) in
    let value : literal - (literal - operand) ≡ operand = omega arith in
    rw (difference_again 2 (literal - operand) rest (omega arith), low, high, value) refl

gate_again : (literal : ℕ) (g : Gate) (rest : List ℕ) → literal < limit 2 → g.left < literal → g.right ≤ g.left
    → gate_at literal (gate_text literal g ++ rest) ≡ Ok (g, rest)
unfolding gate_at
gate_again literal g rest lt left right =
    let second = difference_text 3 (g.left - g.right) in
    let grouped : gate_text literal g ++ rest ≡ difference_text 3 (literal - g.left) ++ (second ++ rest) =
    append_assoc (difference_text 3 (literal - g.left)) second rest in
    ap (gate_at literal) grouped
    ∙ rw (
      operand_again 1 literal g.left (second ++ rest) (omega arith) lt,
      operand_again 0 g.left g.right rest (omega arith) (omega arith),
    ) refl

output_again : (variables literal : ℕ) (rest : List ℕ) → literal < NUMBER_BOUND → literal < 2 * (variables + 1)
    → output_at variables (output_text literal ++ rest) ≡ Ok (literal, rest)
unfolding output_at literal_at behind
output_again variables literal rest lt below =
    let grouped : output_text literal ++ rest ≡ decimal literal ++ 10 ∷ rest = append_assoc (decimal literal) (10 ∷ []) rest in
    let within = le-ltb (2 * variables + 1) literal (omega arith) in
    ap (output_at variables) grouped ∙ rw (number_again literal 10 rest lt refl, within) refl

-- ---- many values

-- what is so of each value, the first of which has this number
abbrev EachAt : {A : Type 0} → (ℕ → A → Type 0) → (first : ℕ) → List A → Type 0
EachAt P first [] = Unit {0}
EachAt P first (x ∷ xs) = P first x × EachAt P (first + 1) xs

each_at : {A : Type 0} (P : ℕ → A → Type 0) (first : ℕ) (xs : List A) → ((i : ℕ) (x : A) → slice_get xs i ≡ Some x → P (first + i) x)
    → EachAt P first xs
each_at P first [] all = tt
each_at P first (x ∷ xs) all =
    let here : first + 0 ≡ first = omega arith in (
      subst (λ n. P n x) here (all 0 x refl),
      each_at P (first + 1) xs (λ i y is.
          let there : first + suc i ≡ first + 1 + i = omega arith in subst (λ n. P n y) there (all (suc i) y is)),
    )

many_again : {A : Type 0} (P : ℕ → A → Type 0) (read : ℕ → List ℕ → Result (A × List ℕ) Fault) (text : ℕ → A → List ℕ)
    → ((k : ℕ) (x : A) (rest : List ℕ) → P k x → read k (text k x ++ rest) ≡ Ok (x, rest))
    → (xs : List A) (first : ℕ) (rest : List ℕ) → EachAt P first xs
    → many read first (length xs) (texts text first xs ++ rest) ≡ Ok (xs, rest)
unfolding many texts
many_again P read text again [] first rest each = refl
many_again P read text again (x ∷ xs) first rest each =
    let grouped : (text first x ++ texts text (first + 1) xs) ++ rest ≡ text first x ++ (texts text (first + 1) xs ++ rest) =
    append_assoc (text first x) (texts text (first + 1) xs) rest in
    ap (many read first (suc (length xs))) grouped
    ∙ rw (again first x (texts text (first + 1) xs ++ rest) each.0, many_again P read text again xs (first + 1) rest each.1) refl

-- ---- the header

size_again : (most : ℕ) (why : Why) (n byte : ℕ) (rest : List ℕ) → n ≤ most → n < NUMBER_BOUND → is_ascii_digit byte ≡ false
    → size_at most why (size_text n ++ byte ∷ rest) ≡ Ok (n, byte ∷ rest)
unfolding size_at behind
size_again most why n byte rest le lt ends = rw (number_again n byte rest lt ends, le-ltb most n le) refl

abbrev header_text : Sizes → List ℕ → List ℕ
header_text sizes rest = size_text sizes.variables ++ (size_text sizes.inputs ++ (size_text 0 ++ (size_text sizes.outputs
    ++ (size_text sizes.gates ++ (10 ∷ rest)))))

sizes_again : (sizes : Sizes) (rest : List ℕ) → AreFew sizes → sizes_at (header_text sizes rest) ≡ Ok (sizes, rest)
unfolding sizes_at header_end_at behind
sizes_again sizes rest few =
    let gates = size_again MAX_GATES TooManyGates sizes.gates 10 rest few.gates (omega (arith, few.gates)) refl in
    let outputs = size_again MAX_OUTPUTS TooManyOutputs sizes.outputs 32 (decimal sizes.gates ++ 10 ∷ rest) few.outputs
    (omega (arith, few.outputs)) refl in
    let latches = size_again 0 Latch 0 32 (decimal sizes.outputs ++ (size_text sizes.gates ++ (10 ∷ rest))) (omega arith) (omega arith)
    refl in
    let inputs = size_again MAX_VARS TooManyInputs sizes.inputs 32
    (decimal 0 ++ (size_text sizes.outputs ++ (size_text sizes.gates ++ (10 ∷ rest)))) few.inputs (omega (arith, few.inputs)) refl in
    let variables = size_again MAX_VARIABLES VariableCount sizes.variables 32
    (decimal sizes.inputs ++ (size_text 0 ++ (size_text sizes.outputs ++ (size_text sizes.gates ++ (10 ∷ rest)))))
    few.variables (omega (arith, few.variables)) refl in
    rw (variables, inputs, latches, outputs, gates) refl

-- ---- symbols

line_again : (name rest : List ℕ) → list_all (λ byte. not (byte == 10)) name ≡ true → line_length (name ++ 10 ∷ rest) ≡ length name
line_again [] rest all = refl
line_again (b ∷ name) rest all =
    let parts = and_parts (not (b == 10)) (list_all (λ byte. not (byte == 10)) name) all in
    let other : eqb b 10 ≡ false = grind (arith, nat_tests, parts.0) in
    rw other (omega (arith, line_again name rest parts.1))

name_again : (front : List (List ℕ)) (k : ℕ) (later : List (List ℕ)) (name rest : List ℕ) → length front ≡ k → k < NUMBER_BOUND
    → 0 < length name → list_all (λ byte. not (byte == 10)) name ≡ true
    → name_at (front ++ [] ∷ later) (decimal k ++ (32 ∷ (name ++ 10 ∷ rest))) ≡ Ok (front ++ name ∷ later, rest)
unfolding name_at behind
name_again front k later name rest at lt some line =
    let number = number_again k 32 (name ++ 10 ∷ rest) lt refl in let len = line_again name rest line in
    let within : leb (length (front ++ [] ∷ later)) k ≡ false = grind (arith, nat_tests, length-append front ([] ∷ later)) in
    let vacant : get_or (front ++ [] ∷ later) k [] ≡ [] =
    ap (λ i. get_or (front ++ [] ∷ later) i []) (sym at) ∙ get_or-append_seam front [] later [] in
    let named : eqb (length name) 0 ≡ false = grind (arith, nat_tests) in
    let written : set (front ++ [] ∷ later) k name ≡ front ++ name ∷ later =
    ap (λ i. set (front ++ [] ∷ later) i name) (sym at) ∙ set-append_seam front [] later name in
    rw (
      number,
      len,
      drop_at name (10 ∷ rest) (length name) refl,
      within,
      vacant,
      named,
      take_at name (10 ∷ rest) (length name) refl,
      written,
    ) refl

module _ (letter : ℕ) (state : List (List ℕ) → Names)
    (adds : (names : List (List ℕ)) (bytes : List ℕ) (x : List (List ℕ) × List ℕ) → name_at names bytes ≡ Ok x
    → symbol_at (state names) (letter ∷ bytes) ≡ Ok (state x.0, x.1))
    (goes_on : (bytes : List ℕ) → are_over (letter ∷ bytes) ≡ false) where
  -- what is left to read behind the symbols
  record After (fuel : ℕ) (names : List (List ℕ)) (text : List ℕ) (now : List (List ℕ)) (rest : List ℕ) : Type 0 where
    left : ℕ
    enough : length rest ≤ left
    same : symbols_at fuel (state names) text ≡ symbols_at left (state now) rest

  symbols_again : (names front : List (List ℕ)) (k : ℕ) (rest : List ℕ) (fuel : ℕ) → length front ≡ k → k + length names < NUMBER_BOUND
      → are_lines names ≡ true → length (texts (symbol_text letter) k names ++ rest) ≤ fuel
      → After fuel (front ++ replicate (length names) []) (texts (symbol_text letter) k names ++ rest) (front ++ names) rest
  unfolding symbols_at texts
  symbols_again [] front k rest fuel at lt lines le = record { left = fuel; enough = le; same = refl }
  symbols_again ([] ∷ names) front k rest fuel at lt lines le =
      let pushed : length (front ++ [] ∷ []) ≡ k + 1 = omega (arith, length-append front ([] ∷ []), at) in
      let others = symbols_again names (front ++ [] ∷ []) (k + 1) rest fuel pushed (omega (arith, lt)) lines le in record {
        left = others.left;
        enough = others.enough;
        same = rw (append_assoc front ([] ∷ []) (replicate (length names) []), append_assoc front ([] ∷ []) names) at others.same;
      }
  symbols_again ((b ∷ bs) ∷ names) front k rest zero at lt lines le = absurd (omega (arith, le))
  symbols_again ((b ∷ bs) ∷ names) front k rest (suc fuel) at lt lines le =
      let name : List ℕ = b ∷ bs in let more = texts (symbol_text letter) (k + 1) names in
      let vacant : List (List ℕ) = replicate (length names) [] in
      let text : List ℕ = decimal k ++ (32 ∷ (name ++ 10 ∷ (more ++ rest))) in
      let grouped : (symbol_text letter k name ++ more) ++ rest ≡ letter ∷ text = simp append_assoc in
      let parts = and_parts (list_all (λ byte. not (byte == 10)) name) (are_lines names) lines in
      let named = name_again front k vacant name (more ++ rest) at (omega (arith, lt)) (omega arith) parts.0 in
      let one : symbols_at (suc fuel) (state (front ++ [] ∷ vacant)) (letter ∷ text)
      ≡ symbols_at fuel (state (front ++ name ∷ vacant)) (more ++ rest) =
      rw (goes_on text, adds (front ++ [] ∷ vacant) text (front ++ name ∷ vacant, more ++ rest) named) refl in
      let pushed : length (front ++ name ∷ []) ≡ k + 1 = omega (arith, length-append front (name ∷ []), at) in
      let fewer : length (more ++ rest) ≤ fuel = omega (
        arith,
        le,
        ap length grouped,
        length-append (decimal k) (32 ∷ (name ++ 10 ∷ (more ++ rest))),
        length-append name (10 ∷ (more ++ rest)),
      ) in
      let others = symbols_again names (front ++ name ∷ []) (k + 1) rest fuel pushed (omega (arith, lt)) parts.1 fewer in
      let same = rw (append_assoc front (name ∷ []) vacant, append_assoc front (name ∷ []) names) at others.same in record {
        left = others.left;
        enough = others.enough;
        same = ap (symbols_at (suc fuel) (state (front ++ [] ∷ vacant))) grouped ∙ one ∙ same;
      }

in_adds : (outs : List (List ℕ)) (names : List (List ℕ)) (bytes : List ℕ) (x : List (List ℕ) × List ℕ) → name_at names bytes ≡ Ok x
    → symbol_at (record { inputs = names; outputs = outs }) (105 ∷ bytes) ≡ Ok (record { inputs = x.0; outputs = outs }, x.1)
unfolding symbol_at
in_adds outs names bytes x e = rw e refl

out_adds : (ins : List (List ℕ)) (names : List (List ℕ)) (bytes : List ℕ) (x : List (List ℕ) × List ℕ) → name_at names bytes ≡ Ok x
    → symbol_at (record { inputs = ins; outputs = names }) (111 ∷ bytes) ≡ Ok (record { inputs = ins; outputs = x.0 }, x.1)
unfolding symbol_at
out_adds ins names bytes x e = rw e refl

over_again : (left : ℕ) (names : Names) (comment : List ℕ) → are_over comment ≡ true → symbols_at left names comment ≡ Ok names
unfolding symbols_at
over_again zero names comment over = refl
over_again (suc left) names comment over = rw over refl

names_again : (ins outs : List (List ℕ)) (comment : List ℕ) → length ins < NUMBER_BOUND → length outs < NUMBER_BOUND → are_lines ins ≡ true
    → are_lines outs ≡ true → are_over comment ≡ true
    → (let text = texts (symbol_text 105) 0 ins ++ (texts (symbol_text 111) 0 outs ++ comment) in
    symbols_at (length text) (record { inputs = replicate (length ins) []; outputs = replicate (length outs) [] }) text
    ≡ Ok (record { inputs = ins; outputs = outs }))
names_again ins outs comment few less in_lines out_lines over =
    let later = texts (symbol_text 111) 0 outs ++ comment in let vacant : List (List ℕ) = replicate (length outs) [] in
    let a = symbols_again 105 (λ names. record { inputs = names; outputs = vacant }) (in_adds vacant) (λ bytes. refl) ins [] 0 later
    (length (texts (symbol_text 105) 0 ins ++ later)) refl (omega arith) in_lines (omega arith) in
    let b = symbols_again 111 (λ names. record { inputs = ins; outputs = names }) (out_adds ins) (λ bytes. refl) outs [] 0 comment a.left
    refl (omega arith) out_lines a.enough in
    a.same ∙ b.same ∙ over_again b.left (record { inputs = ins; outputs = outs }) comment over

-- ---- the whole

module _ (c : Circuit) (comment : List ℕ) (is : IsCircuit c.inputs c.gates c.outputs c.in_names c.out_names)
    (descend : (k : ℕ) (g : Gate) → slice_get c.gates k ≡ Some g → g.right ≤ g.left) (in_lines : are_lines c.in_names ≡ true)
    (out_lines : are_lines c.out_names ≡ true) (over : are_over comment ≡ true) where
  abbrev sizes : Sizes
  sizes = record { variables = c.inputs + length c.gates; inputs = c.inputs; outputs = length c.outputs; gates = length c.gates }

  few : AreFew sizes
  few = record {
    variables = omega (arith, is.few_inputs, is.few_gates);
    inputs = is.few_inputs;
    outputs = is.few_outputs;
    gates = is.few_gates;
  }

  abbrev symbols : List ℕ
  symbols = texts (symbol_text 105) 0 c.in_names ++ (texts (symbol_text 111) 0 c.out_names ++ comment)

  abbrev gates : List ℕ
  gates = texts (λ k. gate_text (2 * (c.inputs + 1 + k))) 0 c.gates

  outputs_again : many (λ k. output_at sizes.variables) 0 (length c.outputs) (texts (λ k. output_text) 0 c.outputs ++ (gates ++ symbols))
      ≡ Ok (c.outputs, gates ++ symbols)
  outputs_again = many_again (λ k literal. literal < 2 * (sizes.variables + 1)) (λ k. output_at sizes.variables) (λ k. output_text)
      (λ k literal rest lt. output_again sizes.variables literal rest (omega (arith, few.variables)) lt) c.outputs 0 (gates ++ symbols)
      (each_at _ 0 c.outputs (λ i literal at.
      let value = get_or_from_slice_get c.outputs i literal literal at in
      omega (arith, is.literals i literal (slice_get_within c.outputs i literal at), value)))

  gates_again : many (λ k. gate_at (2 * (c.inputs + 1 + k))) 0 (length c.gates) (gates ++ symbols) ≡ Ok (c.gates, symbols)
  gates_again = many_again
      (λ k g. (2 * (c.inputs + 1 + k) < limit 2) × (g.left < 2 * (c.inputs + 1 + k)) × (g.right ≤ g.left))
      (λ k. gate_at (2 * (c.inputs + 1 + k))) (λ k. gate_text (2 * (c.inputs + 1 + k)))
      (λ k g rest so. gate_again (2 * (c.inputs + 1 + k)) g rest so.0 so.1 so.2) c.gates 0 symbols
      (each_at _ 0 c.gates (λ i g at. (
        omega (arith, slice_get_within c.gates i g at, is.few_gates, is.few_inputs),
        omega (arith, is.left i g at),
        descend i g at,
      )))

  symbols_read : symbols_at (length symbols) (no_names sizes) symbols ≡ Ok (record { inputs = c.in_names; outputs = c.out_names })
  symbols_read =
      let all = names_again c.in_names c.out_names comment (omega (arith, is.in_count, is.few_inputs))
      (omega (arith, is.out_count, is.few_outputs)) in_lines out_lines over in rw (is.in_count, is.out_count) at all

  binary_again : binary_at (header_text sizes (texts (λ k. output_text) 0 c.outputs ++ (gates ++ symbols))) ≡ Ok c
  unfolding binary_at
  binary_again =
      let all : eqb (c.inputs + length c.gates) (c.inputs + length c.gates) ≡ true = eq-eqb _ _ refl in
      rw (sizes_again sizes (texts (λ k. output_text) 0 c.outputs ++ (gates ++ symbols)) few, all, outputs_again, gates_again, symbols_read)
      refl

  drop_again : binary_at (drop 3 (written c comment)) ≡ Ok c
  unfolding written
  drop_again = rw (append-nil comment, binary_again) refl

  begins : bytes_eq (take 3 (written c comment)) (codes "aig") ≡ true
  unfolding written
  begins = refl

  pub written_is_read : IsReading (written c comment) (Ok c)
  written_is_read = record { read = Ok c; says = binary begins (sym drop_again); is = refl }
