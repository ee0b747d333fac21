-- Answers for two inputs and one output with the care points 0, of value 0, and 3, of value 1: read and judged by computing.
use Rattle.std.proofs.Common.{◌≡◌, ℕ, List, [], ◌∷◌, ◌++◌, codes, Ok, Err, refl}
use Rattle.pla_reader.specs.Lines.{lines_of}
use Rattle.pla_reader.specs.PlainNames.{is_plain}
use Rattle.lattice.specs.Words.{divides, has, includes, numbers_below, family_where, value}
use Rattle.cert_check.specs.declared.answer.Given.{Given}
use Rattle.cert_check.specs.declared.answer.GivenOutput.{GivenOutput}
use Rattle.cert_check.specs.declared.refusal.AnswerWhy.TheVariants.{BadLine, UnknownName, TermOrder, MissingOutput}
use Rattle.cert_check.specs.declared.refusal.Fault.TheVariants.{Value, NotZero, Leads, Count, Reducible}
use Rattle.cert_check.specs.declared.refusal.Verdict.{Verdict}
use Rattle.cert_check.specs.declared.refusal.Verdict.TheVariants.{Yes, No}
use Rattle.cert_check.specs.Reading.{bare, is_term, is_sum, is_line, terms_in, factors_of, factors_product, monomial_of, monomials_of}
use Rattle.cert_check.specs.Reading.{are_known, ascends_from, are_ordered, left_fault, right_fault, line_fault, with_element, with_line}
use Rattle.cert_check.specs.Reading.{Reading, read_on}
use Rattle.cert_check.specs.Faults.{first_verdict, misses, is_one_in, greatest_of, is_comparable, is_below_last, is_divided, miscounts}
use Rattle.cert_check.specs.Faults.{basis_checks, reduced_checks, output_checks}

abbrev line : List ℕ → List ℕ
line text = text ++ codes "\n"

abbrev reading : List ℕ → Reading
reading text = read_on (codes "x1" ∷ codes "x2" ∷ []) (codes "f1" ∷ []) 0 [] (lines_of text)

abbrev given : List ℕ → ℕ → Given
given terms number = record { terms = terms; line = number }

abbrev output : Given → List Given → GivenOutput
output poly basis = record { poly = poly; basis = basis }

-- ---- what is read

-- two lines; empty lines, which are counted, a carriage return and no last line feed; no line; terms in another order,
-- a name that is none, and no
-- space before =
readings : (reading (line (codes "f1 = x2") ++ line (codes "0 = x1 + x2")) ≡ Ok
    (output (given (1 ∷ []) 1) (given (2 ∷ 1 ∷ []) 2 ∷ []) ∷ []))
    × (reading (line [] ++ line (codes "f1 = x1*x2 + 1\r") ++ codes "0 = 0") ≡ Ok (output (given (3 ∷ 0 ∷ []) 2) (given [] 3 ∷ []) ∷ []))
    × (reading [] ≡ Err (0, MissingOutput))
    × (reading (line (codes "f1 = x2") ++ line (codes "0 = x2 + x1")) ≡ Err (2, TermOrder))
    × (reading (line (codes "f1 = x2*x1*y")) ≡ Err (1, UnknownName))
    × (reading (line (codes "f1= x2")) ≡ Err (1, BadLine))
unfolding bare is_term is_sum is_line terms_in factors_of factors_product monomial_of monomials_of are_known ascends_from are_ordered
    left_fault right_fault line_fault with_element with_line read_on is_plain includes
readings = (refl, refl, refl, refl, refl, refl)

-- ---- the verdicts

abbrev verdict : GivenOutput → Verdict
verdict o = first_verdict (output_checks 2 (0 ∷ []) (3 ∷ []) (0 ∷ 3 ∷ []) o)

-- the right answer; x1, which has every given value and is not least; no basis; 1, which misses a value; an element
-- that is 1 at a care point; and
-- an element twice
verdicts : (verdict (output (given (1 ∷ []) 1) (given (2 ∷ 1 ∷ []) 2 ∷ [])) ≡ Yes)
    × (verdict (output (given (2 ∷ []) 1) (given (2 ∷ 1 ∷ []) 2 ∷ [])) ≡ No 1 Reducible)
    × (verdict (output (given (1 ∷ []) 1) []) ≡ No 1 Count)
    × (verdict (output (given (0 ∷ []) 1) (given (2 ∷ 1 ∷ []) 2 ∷ [])) ≡ No 1 Value)
    × (verdict (output (given (1 ∷ []) 1) (given (2 ∷ []) 2 ∷ [])) ≡ No 2 NotZero)
    × (verdict (output (given (1 ∷ []) 1) (given (2 ∷ 1 ∷ []) 2 ∷ given (2 ∷ 1 ∷ []) 3 ∷ [])) ≡ No 3 Leads)
unfolding first_verdict misses is_one_in greatest_of is_comparable is_below_last is_divided miscounts
    basis_checks reduced_checks output_checks value divides has family_where numbers_below
verdicts = (refl, refl, refl, refl, refl, refl)
