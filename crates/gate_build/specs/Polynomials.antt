-- The polynomials of a circuit's literals, by recursion over its gates.
use Rattle.std.specs.Prelude.{ℕ, ◌+◌, ◌/◌, ◌%◌, ◌==◌, List, [], ◌∷◌, ◌++◌, map, if◌then◌else◌}
use Rattle.std.specs.List.{slice_index_or}
use Rattle.lattice.specs.Family.{Family, numbers_below, sum_of}
use Rattle.lattice.specs.Operations.{product_of, variable}
use Rattle.aig_reader.specs.declared.circuit.Gate.{Gate}
use Rattle.aig_reader.specs.Circuit.{Circuit}

-- the polynomial of a variable, in a list of them
abbrev pub at_variable : List Family → ℕ → Family
at_variable polynomials v = slice_index_or polynomials v []

-- the polynomial of a literal, by that of its variable: of a complement it is 1 more
unfoldable pub at_literal : (n : ℕ) → (ℕ → Family) → (literal : ℕ) → Family
at_literal n of_variable literal =
    if literal % 2 == 0 then of_variable (literal / 2) else sum_of n (of_variable (literal / 2)) (0 ∷ [])

-- an input's polynomial is its monomial
abbrev pub input_polynomial : (n k : ℕ) → Family
input_polynomial n k = variable n (k + 1) ∷ []

-- those of the constant 0 and of the inputs
abbrev pub input_polynomials : ℕ → List Family
input_polynomials n = [] ∷ map (input_polynomial n) (numbers_below n)

-- and behind them those of the gates: each is the product of its operands' polynomials
unfoldable pub with_gates : (n : ℕ) → List Family → List Gate → List Family
with_gates n polynomials [] = polynomials
with_gates n polynomials (g ∷ gates) =
    let of_literal = at_literal n (at_variable polynomials) in
    with_gates n (polynomials ++ product_of n (of_literal g.left) (of_literal g.right) ∷ []) gates

-- the polynomials of the circuit's variables
unfoldable pub polynomials_of : Circuit → List Family
polynomials_of c = with_gates c.inputs (input_polynomials c.inputs) c.gates

-- the polynomial of a literal of the circuit
unfoldable pub polynomial_of : Circuit → (literal : ℕ) → Family
polynomial_of c literal = at_literal c.inputs (at_variable (polynomials_of c)) literal
