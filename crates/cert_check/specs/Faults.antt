-- The faults of an answer, in the order in which they are looked for. Terms go from the greatest monomial to the least.
use Rattle.std.specs.Prelude.{ℕ, Bool, true, false, not, ◌||◌, ◌==◌, nat_lt, List, [], ◌∷◌, ◌++◌, length}
use Rattle.std.specs.Prelude.{map, take, drop, None, slice_get, if◌then◌else◌}
use Rattle.std.specs.List.{enumerate_from, flat_map, last_or, list_any}
use Rattle.std.specs.Option.{option_map_or}
use Rattle.lattice.specs.Family.{Family, divides, family_where}
use Rattle.lattice.specs.Polynomial.{value}
use Rattle.lattice.specs.Rows.{care_zeros, care_ones}
use Rattle.lattice.specs.WorkingLists.{care_set}
use Rattle.pla_reader.specs.Reading.{Description}
use Rattle.cert_check.specs.declared.answer.Given.{Given}
use Rattle.cert_check.specs.declared.answer.GivenOutput.{GivenOutput}
use Rattle.cert_check.specs.declared.refusal.Fault.{Fault}
use Rattle.cert_check.specs.declared.refusal.Fault.TheVariants.{Value, NotZero, Leads, Count, Reducible, Order}
use Rattle.cert_check.specs.declared.refusal.Verdict.{Verdict}
use Rattle.cert_check.specs.declared.refusal.Verdict.TheVariants.{Yes, No}

-- whether a check fails, and the line and the fault that are answered then
abbrev pub Check : Type 0
Check = Bool × ℕ × Fault

-- the first check that fails
unfoldable pub first_verdict : List Check → Verdict
first_verdict [] = Yes
first_verdict (check ∷ checks) = if check.0 then No check.1 check.2 else first_verdict checks

-- whether the polynomial is not 0 at one of the zeros, or not 1 at one of the ones
unfoldable pub misses : (zeros ones : Family) → (terms : List ℕ) → Bool
misses zeros ones terms = list_any (λ a. value terms a == 1) zeros || list_any (λ a. value terms a == 0) ones

-- whether the polynomial is 1 at one of the points
unfoldable pub is_one_in : (points : Family) → (terms : List ℕ) → Bool
is_one_in points terms = list_any (λ a. value terms a == 1) points

-- the greatest monomials of the elements
unfoldable pub greatest_of : List Given → List ℕ
greatest_of elements = flat_map (λ element. take 1 element.terms) elements

-- whether a monomial divides one of the others, or is divided by it
unfoldable pub is_comparable : (others : List ℕ) → ℕ → Bool
is_comparable others m = list_any (λ t. divides t m || divides m t) others

-- whether a monomial is less than the last of the others
unfoldable pub is_below_last : (others : List ℕ) → ℕ → Bool
is_below_last others m = option_map_or (nat_lt m) (last_or None others) false

-- whether one of the greatest monomials divides the monomial
unfoldable pub is_divided : (tops : List ℕ) → ℕ → Bool
is_divided tops m = list_any (λ t. divides t m) tops

-- whether the number of the monomials that no greatest monomial divides differs from the number of points
unfoldable pub miscounts : ℕ → (points : Family) → (tops : List ℕ) → Bool
miscounts n points tops = not (length (family_where n (λ m. not (is_divided tops m))) == length points)

-- of an element, behind those with these greatest monomials: that it vanishes; that it is not zero, and its greatest monomial
-- compares with none of them; that this is not less than the last of them
abbrev pub element_checks : (points : Family) → (earlier : List ℕ) → Given → List Check
element_checks points earlier element = let top = slice_get element.terms 0 in
    (is_one_in points element.terms, element.line, NotZero)
    ∷ (option_map_or (is_comparable earlier) top true, element.line, Leads)
    ∷ (option_map_or (is_below_last earlier) top false, element.line, Order) ∷ []

-- of each element in turn
unfoldable pub basis_checks : (points : Family) → (earlier : List ℕ) → List Given → List Check
basis_checks points earlier [] = []
basis_checks points earlier (element ∷ elements) =
    element_checks points earlier element ++ basis_checks points (earlier ++ take 1 element.terms) elements

-- that nothing can be reduced: of the polynomial, and of each element in turn but for its greatest monomial
unfoldable pub reduced_checks : (tops : List ℕ) → GivenOutput → List Check
reduced_checks tops given = (list_any (is_divided tops) given.poly.terms, given.poly.line, Reducible)
    ∷ map (λ element. (list_any (is_divided tops) (drop 1 element.terms), element.line, Reducible)) given.basis

-- of an output with these care points
unfoldable pub output_checks : ℕ → (zeros ones points : Family) → GivenOutput → List Check
output_checks n zeros ones points given = let tops = greatest_of given.basis in
    (misses zeros ones given.poly.terms, given.poly.line, Value)
    ∷ (basis_checks points [] given.basis ++ (miscounts n points tops, given.poly.line, Count) ∷ reduced_checks tops given)

-- of the outputs in turn, the first of them with this number
unfoldable pub checks_from : Description → (first : ℕ) → List GivenOutput → List Check
checks_from d first answer = flat_map (λ o. output_checks d.inputs (care_zeros d.inputs d.kind d.rows o.0)
    (care_ones d.inputs d.kind d.rows o.0) (care_set d.inputs d.kind d.rows o.0) o.1) (enumerate_from first answer)

-- the verdict on an answer: the first fault, if there is one
abbrev pub verdict_on : Description → List GivenOutput → Verdict
verdict_on d answer = first_verdict (checks_from d 1 answer)
