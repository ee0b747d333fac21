-- Laws of the polynomials of literals.
use Rattle.std.specs.Prelude.{◌≡◌, ℕ, ◌+◌, ◌*◌, ◌^◌, ◌<◌, ◌↔◌, Bool, true, false, cond, List, length}
use Rattle.lattice.specs.Family.{Family, IsFamily, has}
use Rattle.lattice.specs.Polynomial.{value}
use Rattle.lattice.specs.Interpolation.{IsLeast}
use Rattle.aig_reader.specs.Circuit.{Circuit, HasValue, IsCircuit}
use Rattle.gate_build.specs.Polynomials.{polynomial_of}

-- the literal is one of a variable of the circuit, in which each gate stands on what is before it
pub record IsLiteral (c : Circuit) (literal : ℕ) : Type 0 where
  pub fits : IsCircuit c.inputs c.gates c.outputs c.in_names c.out_names
  pub within : literal < 2 * (c.inputs + 1 + length c.gates)

-- the polynomial has the literal's value at each point
abbrev pub HasValues : Circuit → (literal : ℕ) → Family → Type 0
HasValues c literal p = (point : ℕ) (x : Bool) → point < 2 ^ c.inputs → (value p point ≡ cond x 1 0) ↔ HasValue c point literal x

-- the points where the literal is 0 and those where it is 1
pub record IsSplitOf (c : Circuit) (literal : ℕ) (zeros ones : List ℕ) : Type 0 where
  pub zero : (a : ℕ) → (has zeros a ≡ true) ↔ ((a < 2 ^ c.inputs) × HasValue c a literal false)
  pub one : (a : ℕ) → (has ones a ≡ true) ↔ ((a < 2 ^ c.inputs) × HasValue c a literal true)

-- The polynomial of a literal is one in the inputs, and has the literal's value at each point.
abbrev pub PolynomialHasValues : Type 0
PolynomialHasValues = (c : Circuit) (literal : ℕ) → IsLiteral c literal
    → IsFamily c.inputs (polynomial_of c literal) × HasValues c literal (polynomial_of c literal)

-- It is the only one with these values.
abbrev pub PolynomialIsOnly : Type 0
PolynomialIsOnly = (c : Circuit) (literal : ℕ) (p : Family) → IsLiteral c literal → IsFamily c.inputs p → HasValues c literal p
    → p ≡ polynomial_of c literal

-- It is the least one with these values.
abbrev pub PolynomialIsLeast : Type 0
PolynomialIsLeast = (c : Circuit) (literal : ℕ) (zeros ones : List ℕ) → IsLiteral c literal → IsSplitOf c literal zeros ones
    → IsLeast c.inputs zeros ones (polynomial_of c literal)
