-- What a text answers, or why it is refused, line by line. What stands on a line has no line feed, and no carriage return
-- before it.
use Rattle.std.specs.Prelude.{◌≡◌, ℕ, ◌+◌, ◌-◌, ◌^◌, Bool, true, false, not, ◌&&◌, ◌||◌, ◌==◌, nat_lt, nat_le, List, [], ◌∷◌, ◌++◌, length}
use Rattle.std.specs.Prelude.{map, drop, slice_index_or, sum_by, codes, Option, Some, Result, Ok, Err, if◌then◌else◌}
use Rattle.std.specs.List.{filter, list_all, slice_split, slice_get, position_or_len}
use Rattle.std.specs.Bool.{then_some}
use Rattle.std.specs.Option.{option_map_or, option_or}
use Rattle.std.specs.Str.{bytes_eq}
use Rattle.lattice.specs.Family.{includes}
use Rattle.lattice.specs.Cofactors.{is_empty}
use Rattle.pla_reader.specs.Lines.{lines_of}
use Rattle.std.specs.Io.BufRead.{strip_last}
use Rattle.pla_reader.specs.Grammar.{first_failed}
use Rattle.pla_reader.specs.PlainNames.{is_plain}
use Rattle.pla_reader.specs.Reading.{Description}
use Rattle.pla_reader.specs.PrintedNames.{printed_names}
use Rattle.cert_check.specs.declared.answer.Given.{Given}
use Rattle.cert_check.specs.declared.answer.GivenOutput.{GivenOutput}
use Rattle.cert_check.specs.declared.refusal.AnswerWhy.{AnswerWhy}
use Rattle.cert_check.specs.declared.refusal.AnswerWhy.TheVariants.{BadLine, UnknownName, TermOrder, MissingOutput}
use Rattle.pla_reader.specs.declared.refusal.TextRefusal.{TextRefusal}
use Rattle.pla_reader.specs.declared.refusal.TextRefusal.TheVariants.{Bad, Memory}

-- ---- the form of a line

-- what stands on a line
unfoldable pub bare : List ℕ → List ℕ
bare line = strip_last 13 (strip_last 10 line)

-- the parts between single bytes of this kind
abbrev pub parts : ℕ → List ℕ → List (List ℕ)
parts byte text = slice_split (λ b. b == byte) text

-- the words of a line, between single spaces
abbrev pub words : List ℕ → List (List ℕ)
words = parts 32

-- a term is 1, or plain names joined by *
unfoldable pub is_term : List ℕ → Bool
is_term word = bytes_eq word (codes "1") || list_all is_plain (parts 42 word)

-- a sum is terms joined by +
unfoldable pub is_sum : List (List ℕ) → Bool
is_sum [] = false
is_sum (term ∷ []) = is_term term
is_sum (term ∷ joint ∷ rest) = is_term term && (bytes_eq joint (codes "+") && is_sum rest)

-- the right side is 0, or a sum
abbrev pub is_right : List (List ℕ) → Bool
is_right (word ∷ []) = bytes_eq word (codes "0") || is_sum (word ∷ [])
is_right right = is_sum right

-- the left side is 0, or a plain name
abbrev pub is_element : List ℕ → Bool
is_element left = bytes_eq left (codes "0")

abbrev pub is_left : List ℕ → Bool
is_left left = is_element left || is_plain left

-- a line is its left side, =, and its right side
unfoldable pub is_line : List (List ℕ) → Bool
is_line (left ∷ equals ∷ right) = is_left left && (bytes_eq equals (codes "=") && is_right right)
is_line _ = false

-- ---- what a line says

abbrev pub left_of : List (List ℕ) → List ℕ
left_of line = slice_index_or line 0 []

abbrev pub right_of : List (List ℕ) → List (List ℕ)
right_of line = drop 2 line

-- the terms of a right side
unfoldable pub terms_in : List (List ℕ) → List (List ℕ)
terms_in right = filter is_term right

-- the factors of a term; 1 has none
unfoldable pub factors_of : List ℕ → List (List ℕ)
factors_of term = if bytes_eq term (codes "1") then [] else parts 42 term

-- the place of a name, or the number of names
abbrev pub place_of : List (List ℕ) → List ℕ → ℕ
place_of names name = position_or_len (λ other. bytes_eq other name) names

-- the monomial of these factors: of n names, the one at place i is that of the variable of weight 2 ^ (n - 1 - i)
unfoldable pub factors_product : List (List ℕ) → List (List ℕ) → ℕ
factors_product names factors = sum_by (λ name. 2 ^ (length names - 1 - place_of names name)) factors

unfoldable pub monomial_of : List (List ℕ) → List ℕ → ℕ
monomial_of names term = factors_product names (factors_of term)

-- the monomials of a right side, in the order of its terms
unfoldable pub monomials_of : List (List ℕ) → List (List ℕ) → List ℕ
monomials_of names right = map (monomial_of names) (terms_in right)

-- ---- what is wrong with a line

-- whether each factor is one of the names
unfoldable pub are_known : List (List ℕ) → List (List ℕ) → Bool
are_known names terms = list_all (λ term. list_all (includes names) (factors_of term)) terms

-- whether factors ascend strictly by their places, which are not before the least one
unfoldable pub ascends_from : List (List ℕ) → (least : ℕ) → (factors : List (List ℕ)) → Bool
ascends_from names least [] = true
ascends_from names least (name ∷ factors) = nat_le least (place_of names name) && ascends_from names (place_of names name + 1) factors

-- whether the factors of each term ascend, and the terms descend strictly from below a limit
unfoldable pub are_ordered : List (List ℕ) → (limit : ℕ) → (terms : List (List ℕ)) → Bool
are_ordered names limit [] = true
are_ordered names limit (term ∷ terms) =
    ascends_from names 0 (factors_of term) && (nat_lt (monomial_of names term) limit && are_ordered names (monomial_of names term) terms)

-- whether the name is that of the output behind so many
abbrev pub is_next : (outs : List (List ℕ)) → (before : ℕ) → (name : List ℕ) → Bool
is_next outs before name = option_map_or (λ next. bytes_eq next name) (slice_get outs before) false

-- what is wrong with a left side, after the lines of so many outputs: an element before the first, another name than the next
unfoldable pub left_fault : (outs : List (List ℕ)) → (before : ℕ) → (left : List ℕ) → Option AnswerWhy
left_fault outs before left = if is_element left then then_some (before == 0) MissingOutput
    else first_failed ((not (includes outs left), UnknownName) ∷ (not (is_next outs before left), MissingOutput) ∷ [])

-- what is wrong with a right side
unfoldable pub right_fault : (ins : List (List ℕ)) → (right : List (List ℕ)) → Option AnswerWhy
right_fault ins right = first_failed ((not (are_known ins (terms_in right)), UnknownName)
    ∷ (not (are_ordered ins (2 ^ length ins) (terms_in right)), TermOrder) ∷ [])

-- what is wrong with a line of these words
unfoldable pub line_fault : (ins outs : List (List ℕ)) → (before : ℕ) → (line : List (List ℕ)) → Option AnswerWhy
line_fault ins outs before line =
    if is_line line then option_or (left_fault outs before (left_of line)) (right_fault ins (right_of line)) else Some BadLine

-- ---- the whole

-- what was read, with one more element of the last output's basis
unfoldable pub with_element : List GivenOutput → Given → List GivenOutput
with_element [] element = []
with_element (output ∷ []) element = record { poly = output.poly; basis = output.basis ++ element ∷ [] } ∷ []
with_element (output ∷ next ∷ outputs) element = output ∷ with_element (next ∷ outputs) element

-- what was read, with one more line of these words: an element of the last output, or an output without elements so far
unfoldable pub with_line : (ins : List (List ℕ)) → List GivenOutput → (number : ℕ) → (line : List (List ℕ)) → List GivenOutput
with_line ins read number line = let given : Given = record { terms = monomials_of ins (right_of line); line = number } in
    if is_element (left_of line) then with_element read given else read ++ record { poly = given; basis = [] } ∷ []

-- an answer, or the number of the first bad line and the first check that it fails
abbrev pub Reading : Type 0
Reading = Result (List GivenOutput) (ℕ × AnswerWhy)

-- what the lines add to what was read, after so many other lines
unfoldable pub read_on : (ins outs : List (List ℕ)) → (count : ℕ) → List GivenOutput → List (List ℕ) → Reading
read_on ins outs count read [] = if nat_lt (length read) (length outs) then Err (count, MissingOutput) else Ok read
read_on ins outs count read (line ∷ lines) =
    if is_empty (bare line) then read_on ins outs (count + 1) read lines
    else option_map_or (λ why. Err (count + 1, why)) (line_fault ins outs (length read) (words (bare line)))
    (read_on ins outs (count + 1) (with_line ins read (count + 1) (words (bare line))) lines)

-- what the text answers for a description, or why it is refused
abbrev pub answer_reading : Description → List ℕ → Reading
answer_reading d text =
    read_on (printed_names (codes "x") d.inputs d.in_names) (printed_names (codes "f") d.outputs d.out_names) 0 [] (lines_of text)

-- the result gives what was read, unless memory ran out
abbrev pub GivesAnswer : Result (List GivenOutput) (TextRefusal AnswerWhy) → Reading → Type 0
GivesAnswer (Ok answer) reading = reading ≡ Ok answer
GivesAnswer (Err (Bad line why)) reading = reading ≡ Err (line, why)
GivesAnswer (Err Memory) reading = Unit {0}
