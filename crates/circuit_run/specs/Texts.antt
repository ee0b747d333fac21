-- The texts of answers.
use Rattle.std.specs.Prelude.{ℕ, ◌+◌, ◌^◌, List, [], ◌∷◌, ◌++◌, codes, decimal, flat_map, if◌then◌else◌, length, map, remove, zip}
use Rattle.std.specs.Prelude.{Option, None, Some}
use Rattle.lattice.specs.Family.{Family, divides, numbers_below}
use Rattle.anf_printer.specs.Text.{left_text, lines_text}
use Rattle.anf_printer.specs.declared.lines.Left.TheVariants.{Output, Zero}
use Rattle.diagram_measures.specs.Measured.{degree_of, nodes_of}
use Rattle.diagram_measures.specs.declared.measured.Measures.{Measures}

-- the numbers of the outputs, from 1 on, that are answered: all but that of the one that says which points are cared for
abbrev pub answered : (outputs : ℕ) → (care : Option ℕ) → List ℕ
answered outputs None = map (λ k. k + 1) (numbers_below outputs)
answered outputs (Some output) = remove (map (λ k. k + 1) (numbers_below outputs)) output

-- with these names of the inputs and the outputs, a line for the polynomial of each of these outputs, and one for each element of the basis
abbrev pub polynomials_text : (names outputs : List (List ℕ)) → (numbers : List ℕ) → (polynomials basis : List Family) → List ℕ
polynomials_text names outputs numbers polynomials basis =
    lines_text names outputs (zip (map (λ number. Output number) numbers) polynomials ++ map (λ element. (Zero, element)) basis)

-- how large a polynomial in n variables is: its terms, the most variables of one, and the nodes of its diagram
abbrev pub measures_of : (n : ℕ) → Family → Measures
measures_of n p = record { terms = length p; degree = degree_of p; nodes = nodes_of n p }

-- the line of an output of this name
abbrev pub count_line : (name : List ℕ) → Measures → List ℕ
count_line name m = name ++ codes ": terms " ++ decimal m.terms ++ codes ", degree " ++ decimal m.degree ++ codes ", nodes "
    ++ decimal m.nodes ++ codes "\n"

-- with these names of the outputs, a line for each of these outputs, by its name and what was found of it
abbrev pub found_text : {A : Type 0} → (line : (name : List ℕ) → A → List ℕ) → (outputs : List (List ℕ)) → (numbers : List ℕ) → List A → List ℕ
found_text line outputs numbers found = flat_map (λ o. line (left_text outputs (Output o.0)) o.1) (zip numbers found)

abbrev pub counts_text : (outputs : List (List ℕ)) → (numbers : List ℕ) → List Measures → List ℕ
counts_text outputs numbers measures = found_text count_line outputs numbers measures

-- ---- the text of mode equal

-- whether a point has the variable of a weight
abbrev pub bit_text : (weight point : ℕ) → List ℕ
bit_text weight point = if divides weight point then codes "=1" else codes "=0"

-- a point, as the bit of each input behind its name: of n names, name i is that of the variable of weight 2 ^ (n - i)
unfoldable pub point_text : (names : List (List ℕ)) → (point : ℕ) → List ℕ
point_text [] point = []
point_text (name ∷ names) point = codes " " ++ name ++ bit_text (2 ^ length names) point ++ point_text names point

-- the line of an output of this name: the least point at which it differs, if there is one
abbrev pub equal_line : (names : List (List ℕ)) → (name : List ℕ) → Option ℕ → List ℕ
equal_line names name None = name ++ codes ": equal\n"
equal_line names name (Some point) = name ++ codes ": different at" ++ point_text names point ++ codes "\n"

-- with these names of the inputs and the outputs, a line for each of these outputs
abbrev pub equal_text : (names outputs : List (List ℕ)) → (numbers : List ℕ) → List (Option ℕ) → List ℕ
equal_text names outputs numbers points = found_text (equal_line names) outputs numbers points
