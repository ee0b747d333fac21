-- The answer's text: for each output its polynomial, and in basis mode its basis elements.
use Rattle.std.specs.Prelude.{ℕ, ◌-◌, ◌^◌, ◌≤◌, List, [], ◌∷◌, ◌++◌, ◌==◌, if◌then◌else◌, length, map, reverse, codes, slice_index_or}
use Rattle.std.specs.List.{All, flat_map, join_by, zip}
use Rattle.lattice.specs.Family.{Family, divides, IsFamily}
use Rattle.lattice.specs.declared.kind.Mode.{Mode}
use Rattle.lattice.specs.WorkingLists.{is_basis}
use Rattle.pla_reader.specs.PrintedNames.{input_names, output_names}
use Rattle.pla_reader.specs.declared.pla.Pla.{Pla}
use Rattle.anf_printer.specs.declared.answer.Shown.{Shown}
use Rattle.anf_printer.specs.declared.lines.Left.{Left}
use Rattle.anf_printer.specs.declared.lines.Left.TheVariants.{Zero, Output}
use Rattle.anf_printer.specs.declared.lines.Line.{Line}

-- ---- polynomials

-- the names of a monomial's variables, in order: of n names, name i is that of the variable of weight 2 ^ (n - i)
unfoldable pub variables_of : List (List ℕ) → ℕ → List (List ℕ)
variables_of [] m = []
variables_of (name ∷ names) m = if divides (2 ^ length names) m then name ∷ variables_of names m else variables_of names m

unfoldable pub monomial_text : List (List ℕ) → ℕ → List ℕ
monomial_text names m = if m == 0 then codes "1" else join_by (λ name. name) (codes "*") (variables_of names m)

-- the names of a monomial's variables, each behind a sign
unfoldable pub factors_text : List (List ℕ) → ℕ → List ℕ
factors_text names m = flat_map (λ name. codes "*" ++ name) (variables_of names m)

-- the product of factors: 1 where there are none
unfoldable pub product_text : List ℕ → List ℕ
product_text [] = codes "1"
product_text (sign ∷ product) = product

-- the monomials in the order given
unfoldable pub sum_text : List (List ℕ) → List ℕ → List ℕ
sum_text names [] = codes "0"
sum_text names (m ∷ ms) = join_by (monomial_text names) (codes " + ") (m ∷ ms)

-- the monomials of a polynomial from the greatest to the least
abbrev pub polynomial_text : List (List ℕ) → Family → List ℕ
polynomial_text names p = sum_text names (reverse p)

-- ---- outputs

-- an output's polynomial, and its basis elements
pub record Answer : Type 0 where
  pub polynomial : Family
  pub basis : List Family

-- a line: what is on its left, and a polynomial
unfoldable pub line : List (List ℕ) → List ℕ → Family → List ℕ
line names left p = left ++ codes " = " ++ polynomial_text names p ++ codes "\n"

-- 0, or the name of the output of this number, of those with these names
abbrev pub left_text : List (List ℕ) → Left → List ℕ
left_text outputs Zero = codes "0"
left_text outputs (Output number) = slice_index_or outputs (number - 1) []

-- some lines, each of what is on its left and a polynomial, with these names of inputs and outputs
abbrev pub lines_text : (names outputs : List (List ℕ)) → List (Left × Family) → List ℕ
lines_text names outputs lines = flat_map (λ l. line names (left_text outputs l.0) l.1) lines

-- the text of the output of a name: its line and, in mode basis, those of the elements
unfoldable pub output_text : Mode → List (List ℕ) → List ℕ → Answer → List ℕ
output_text mode names name a = line names name a.polynomial ++ flat_map (line names (codes "0")) (if is_basis mode then a.basis else [])

-- the texts of outputs, in order
unfoldable pub texts_of : Mode → (names outputs : List (List ℕ)) → List Answer → List (List ℕ)
texts_of mode names outputs answers = map (λ o. output_text mode names o.0 o.1) (zip outputs answers)

-- the answer's text: one text for each output
abbrev pub answer_texts : Pla → Mode → List Answer → List (List ℕ)
answer_texts p mode answers = texts_of mode (input_names p) (output_names p) answers

-- ---- what is handed to the printer, whose lists go from the greatest monomial to the least

abbrev pub shown_answer : Shown → Answer
shown_answer s = record { polynomial = reverse s.poly; basis = map reverse s.basis }

-- the polynomial and the basis elements are families of monomials over so many inputs
pub record IsAnswerOver (inputs : ℕ) (a : Answer) : Type 0 where
  pub polynomial : IsFamily inputs a.polynomial
  pub basis : All (IsFamily inputs) a.basis

abbrev pub shown_line : Line → Left × Family
shown_line l = (l.left, reverse l.terms.now)

-- what is on the left is 0 or one of so many outputs
abbrev pub IsLeftOf : ℕ → Left → Type 0
IsLeftOf outputs Zero = Unit {0}
IsLeftOf outputs (Output number) = (1 ≤ number) × (number ≤ outputs)

-- and the polynomial is a family of monomials over so many inputs
pub record IsLineOver (inputs outputs : ℕ) (l : Left × Family) : Type 0 where
  pub left : IsLeftOf outputs l.0
  pub polynomial : IsFamily inputs l.1
